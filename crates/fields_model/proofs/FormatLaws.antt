-- Each way of putting formats together keeps the law: what is read stands there, what stands there
-- is read, a fault lies within the bytes, and no text is longer than said.
use Rattle.std.proofs.Common.{◌≡◌, ℕ, zero, suc, ◌+◌, ◌-◌, ◌^◌, ◌*◌, max, ◌<◌, ◌≤◌, Bool, true, false, cond, ltb, eqb, nat_le, List, [], ◌∷◌, ◌++◌, length, map, take, drop, Option, Some, None, Result, Ok, Err, refl, sym, ap, subst, ◌⊎◌, ◌∙◌, append_assoc, arith, inl, inr, length-append, length-drop}
use Rattle.std.specs.List.{flat_map, AllByRecursion, list_all, range_with_len}
use Rattle.std.specs.Cmp.{first_so, second_so}
use Rattle.std.specs.Cmp.Derive.{both_true}
use Rattle.rows.specs.Rising.{keeps}
use Rattle.std.proofs.lemmas.Bool.{ltb-true, ltb-false, lt-ltb, le-ltb, eqb-true, eq-eqb, ne_eqb, cases_eq}
use Rattle.std.proofs.lemmas.List.{drop_at, take_at, length-take, drop-drop, take-append-drop, get_or-drop}
use Rattle.std.proofs.Math.Nat.{mul-le-mul_right, le_trans}
use Rattle.byteorder.specs.Endian.{big_number}
use Rattle.byteorder.specs.Numbers.{big_number-reads_back, length-bytes_high_first}
use Rattle.fields_model.specs.Format.{Reading, ◌>>=◌, Format, spelled, number_at, number, string, nothing, ◌then◌, made, items_at, list, tagged, option_case, code_at, coded, absent, since, kept, known, depends, keyed, keyed_behind, value_in, enumerated, with_number, numbered, ruled_at, ruled_list, IsRuled, part_text, PartFits, variant, IsVariant, never, either, choice, IsBytes, Stands, Lawful}
use Rattle.fields_model.proofs.NumberBytes.{bytes_again}

-- ---- steps that did not fail

-- where two steps read a value, the first read one and the second went on with it
pub bind_ok : {A B : Type 0} (r : Result A ℕ) (f : A → Result B ℕ) (y : B) → (r >>= f) ≡ Ok y → (x : A) × (r ≡ Ok x) × (f x ≡ Ok y)
bind_ok (Ok x) f y e = (x, refl, e)
bind_ok (Err d) f y e = absurd cc

-- past a test that ends reading, the test was false
pub guard_out : {A : Type 0} (b : Bool) (d : ℕ) (r : Result A ℕ) (y : A) → cond b (Err d) r ≡ Ok y → (b ≡ false) × (r ≡ Ok y)
guard_out true d r y e = absurd cc
guard_out false d r y e = (refl, e)

-- past a test that reading needs, the test was true
pub guard_in : {A : Type 0} (b : Bool) (d : ℕ) (x y : A) → cond b (Ok x) (Err d) ≡ Ok y → (b ≡ true) × (x ≡ y)
guard_in true d x y e = (refl, cc)
guard_in false d x y e = absurd cc

-- a value, read
abbrev pub done : {A : Type 0} → A → Result A ℕ
done x = Ok x

-- one result has one value
pub ok_is : {A : Type 0} (x y : A) → done x ≡ done y → x ≡ y
ok_is x y e = cc

-- ---- steps that failed

-- a fault of two steps is one of the first, or one of the second after what the first read
bind_err : {A B : Type 0} (r : Result A ℕ) (f : A → Result B ℕ) (p : ℕ) → (r >>= f) ≡ Err p → (r ≡ Err p) ⊎ ((x : A) × (r ≡ Ok x) × (f x ≡ Err p))
bind_err (Ok x) f p e = inr (x, refl, e)
bind_err (Err d) f p e = inl cc

-- a fault at a test that ends reading is there, or in what follows
err_out : {A : Type 0} (b : Bool) (d : ℕ) (r : Result A ℕ) (p : ℕ) → cond b (Err d) r ≡ Err p → (d ≡ p) ⊎ (r ≡ Err p)
err_out true d r p e = inl cc
err_out false d r p e = inr e

-- a fault at a test that reading needs is there
err_in : {A : Type 0} (b : Bool) (d : ℕ) (x : A) (p : ℕ) → cond b (Ok x) (Err d) ≡ Err p → d ≡ p
err_in true d x p e = absurd cc
err_in false d x p e = cc

-- what stands at a place of the bytes ends within them
stands_within : {A : Type 0} (f : Format A) (bytes : List ℕ) (at : ℕ) (v : A) (next : ℕ) → at ≤ length bytes → Stands f bytes at v next → next ≤ length bytes
stands_within f bytes at v next le s =
    let lens : length bytes - at ≡ length (f.text v) + (length bytes - next) = sym (length-drop at bytes) ∙ ap length s.here ∙ length-append (f.text v) (drop next bytes) ∙ ap (λ (k : ℕ). length (f.text v) + k) (length-drop next bytes) in
    let after = s.after in
    omega arith

-- a fault of one step or of the next is inside
pub seq_inside : {A B : Type 0} (f : Format A) → Lawful f → (bytes : List ℕ) (at place : ℕ) (more : A × ℕ → Result B ℕ) → IsBytes bytes → at ≤ length bytes → (f.read bytes at >>= more) ≡ Err place
    → ((x : A × ℕ) → f.Fits x.0 → x.1 ≤ length bytes → more x ≡ Err place → place ≤ length bytes) → place ≤ length bytes
seq_inside f lf bytes at place more fits le e next =
    elim (bind_err (f.read bytes at) more place e) [
      | inl p ↦ lf.inside bytes at place fits le p
      | inr q ↦
          let s = lf.found bytes at q.0.0 q.0.1 fits q.1 in
          next q.0 s.fits (stands_within f bytes at q.0.0 q.0.1 le s) q.2
    ]

-- ---- places

-- past a text stands what follows it
pub past : (at : ℕ) (bytes text rest : List ℕ) → drop at bytes ≡ text ++ rest → drop (at + length text) bytes ≡ rest
past at bytes text rest h = sym (drop-drop (length text) at bytes) ∙ ap (drop (length text)) h ∙ drop_at text rest (length text) refl

-- ---- numbers

-- a number in n bytes has n of them
pub length-spelled : (n x : ℕ) → length (spelled n x) ≡ n
unfolding spelled
length-spelled n x = length-bytes_high_first n x

-- the number that n bytes have is spelled by those bytes
spelled_again : (n : ℕ) (bytes : List ℕ) → IsBytes bytes → n ≤ length bytes → spelled n (big_number n bytes) ≡ take n bytes
unfolding spelled
spelled_again n bytes fits le = bytes_again n bytes fits le

-- the text of a number that n bytes can hold has that number
spelled_back : (n v : ℕ) (bytes rest : List ℕ) → v < 256 ^ n → bytes ≡ spelled n v ++ rest → big_number n bytes ≡ v
unfolding spelled
spelled_back n v bytes rest lt e = ap (big_number n) e ∙ big_number-reads_back n v rest lt

-- a number within bounds, which its bytes can hold
pub number_lawful : (n low limit : ℕ) → 0 < n → limit ≤ 256 ^ n → Lawful (number n low limit)
number_lawful n low limit some wide = record {
  found = λ bytes at v next fits e.
      let x = big_number n (drop at bytes) in
      let a = guard_out (ltb (length bytes) (at + n)) at (cond (ltb x low) (Err at) (cond (ltb x limit) (Ok (x, at + n)) (Err at))) (v, next) e in
      let b = guard_out (ltb x low) at (cond (ltb x limit) (Ok (x, at + n)) (Err at)) (v, next) a.1 in
      let c = guard_in (ltb x limit) at (x, at + n) (v, next) b.1 in
      let long : at + n ≤ length bytes = ltb-false _ _ a.0 in
      let low_is : low ≤ x = ltb-false _ _ b.0 in
      let top_is : x < limit = ltb-true _ _ c.0 in
      let again = spelled_again n (drop at bytes) (λ i. rw get_or-drop (fits (at + i))) (omega (arith, length-drop at bytes)) in
      let made_here : Stands (number n low limit) bytes at x (at + n) = record {
        fits = (low_is, top_is);
        here = rw (again, ← drop-drop n at bytes) (sym (take-append-drop n (drop at bytes)));
        after = rw (length-spelled n x) refl;
      } in
      subst (λ (p : ℕ × ℕ). Stands (number n low limit) bytes at p.0 p.1) c.1 made_here;
  only = λ bytes at v rest fits e.
      let back = spelled_back n v (drop at bytes) rest (omega (arith, fits.1)) e in
      let len = length-spelled n v in
      let total : length (drop at bytes) ≡ n + length rest = ap length e ∙ length-append (spelled n v) rest ∙ ap (λ (k : ℕ). k + length rest) len in
      let t1 : ltb (length bytes) (at + n) ≡ false = le-ltb _ _ (omega (arith, total, length-drop at bytes)) in
      let t2 : ltb v low ≡ false = le-ltb _ _ fits.0 in
      let t3 : ltb v limit ≡ true = lt-ltb _ _ fits.1 in
      rw (t1, back, t2, t3, len) refl;
  inside = λ bytes at place fits le e.
      let x = big_number n (drop at bytes) in
      elim (err_out (ltb (length bytes) (at + n)) at (cond (ltb x low) (Err at) (cond (ltb x limit) (Ok (x, at + n)) (Err at))) place e) [
        | inl p ↦ omega arith
        | inr q ↦ elim (err_out (ltb x low) at (cond (ltb x limit) (Ok (x, at + n)) (Err at)) place q) [
          | inl p ↦ omega arith
          | inr r ↦ let p = err_in (ltb x limit) at (x, at + n) place r in omega arith
        ]
      ];
  short = λ v fits. rw (length-spelled n v) (omega arith);
}

-- ---- strings

-- what is left after a place, and starts with n items, has n items
enough : (len from n rest : ℕ) → len - from ≡ n + rest → from ≤ len → from + n ≤ len
enough len from n rest e le = omega arith

-- a text of some bytes ends within
string_room : (at : ℕ) (text bytes rest : List ℕ) {w : ℕ} → length text ≡ w → 0 < w → drop at bytes ≡ text ++ rest → at + length text ≤ length bytes
string_room at text bytes rest len some here =
    let lens : length bytes - at ≡ length text + length rest = sym (length-drop at bytes) ∙ ap length here ∙ length-append text rest in
    omega arith

-- a counted text of bytes that pass a test
pub string_lawful : (w low most : ℕ) (test : ℕ → Bool) → 0 < w → most < 256 ^ w → Lawful (string w low most test)
string_lawful w low most test some wide =
    let count = number_lawful w low (most + 1) some (omega arith) in record {
      found = λ bytes at v next fits e.
          let a = bind_ok (number_at w low (most + 1) bytes at) (λ n. cond (ltb (length bytes) (n.1 + n.0)) (Err at) (cond (list_all test (take n.0 (drop n.1 bytes))) (Ok (take n.0 (drop n.1 bytes), n.1 + n.0)) (Err at))) (v, next) e in
          let n = a.0.0 in
          let mid = a.0.1 in
          let s = count.found bytes at n mid fits a.1 in
          let text = take n (drop mid bytes) in
          let b = guard_out (ltb (length bytes) (mid + n)) at (cond (list_all test text) (Ok (text, mid + n)) (Err at)) (v, next) a.2 in
          let c = guard_in (list_all test text) at (text, mid + n) (v, next) b.1 in
          let long : mid + n ≤ length bytes = ltb-false _ _ b.0 in
          let len : length text ≡ n = omega (arith, length-take n (drop mid bytes), length-drop mid bytes) in
          let rest : drop mid bytes ≡ text ++ drop (mid + n) bytes = sym (take-append-drop n (drop mid bytes)) ∙ ap (λ (r : List ℕ). text ++ r) (drop-drop n mid bytes) in
          let whole : Stands (string w low most test) bytes at text (mid + n) = record {
            fits = (omega (arith, s.fits.0, len), omega (arith, s.fits.1, len), c.0);
            here = s.here ∙ ap (λ (r : List ℕ). spelled w n ++ r) rest ∙ sym (append_assoc (spelled w n) text (drop (mid + n) bytes)) ∙ ap (λ (k : ℕ). (spelled w k ++ text) ++ drop (mid + n) bytes) (sym len);
            after = omega (arith, s.after, len, length-append (spelled w (length text)) text, length-spelled w n, length-spelled w (length text));
          } in
          subst (λ (p : List ℕ × ℕ). Stands (string w low most test) bytes at p.0 p.1) c.1 whole;
      only = λ bytes at v rest fits e.
          let size = spelled w (length v) in
          let here : drop at bytes ≡ size ++ (v ++ rest) = e ∙ append_assoc size v rest in
          let first = count.only bytes at (length v) (v ++ rest) (fits.0, omega (arith, fits.1)) here in
          let second = past at bytes size (v ++ rest) here in
          let text : take (length v) (drop (at + length size) bytes) ≡ v = ap (take (length v)) second ∙ take_at v rest (length v) refl in
          let lens : length bytes - (at + length size) ≡ length v + length rest = sym (length-drop (at + length size) bytes) ∙ ap length second ∙ length-append v rest in
          let t1 : ltb (length bytes) (at + length size + length v) ≡ false = le-ltb _ _ (enough (length bytes) (at + length size) (length v) (length rest) lens (string_room at size bytes (v ++ rest) (length-spelled w (length v)) some here)) in
          let len : at + length size + length v ≡ at + length (size ++ v) = omega (arith, length-append size v) in
          rw (first, t1, text, fits.2, len) refl;
      inside = λ bytes at place fits le e.
          seq_inside (number w low (most + 1)) count bytes at place (λ n. cond (ltb (length bytes) (n.1 + n.0)) (Err at) (cond (list_all test (take n.0 (drop n.1 bytes))) (Ok (take n.0 (drop n.1 bytes), n.1 + n.0)) (Err at))) fits le e
          (λ n fa lea ea. elim (err_out (ltb (length bytes) (n.1 + n.0)) at (cond (list_all test (take n.0 (drop n.1 bytes))) (Ok (take n.0 (drop n.1 bytes), n.1 + n.0)) (Err at)) place ea) [
            | inl p ↦ omega arith
            | inr q ↦ let p = err_in (list_all test (take n.0 (drop n.1 bytes))) at (take n.0 (drop n.1 bytes), n.1 + n.0) place q in omega arith
          ]);
      short = λ v fits. omega (arith, fits.1, length-append (spelled w (length v)) v, length-spelled w (length v));
    }

-- ---- what is made of formats

-- no bytes at all
pub nothing_lawful : Lawful nothing
nothing_lawful = record {
  found = λ bytes at v next fits e.
      let p = ok_is (tt, at) (v, next) e in
      let q : at ≡ next = ap (λ (p : Unit {0} × ℕ). p.1) p in
      record { fits = tt; here = rw q refl; after = omega arith };
  only = λ bytes at v rest fits e. ap (λ (k : ℕ). done (v, k)) (omega arith);
  inside = λ bytes at place fits le e. absurd cc;
  short = λ v fits. omega arith;
}

-- a value, and then one whose format depends on it
pub depends_lawful : {A B : Type 0} (f : Format A) (most : ℕ) (g : A → Format B) → Lawful f → ((a : A) → f.Fits a → Lawful (g a)) → ((a : A) → f.Fits a → (g a).most ≤ most) → Lawful (depends f most g)
depends_lawful {A} {B} f most g lf lg within = record {
  found = λ bytes at v next fits e.
      let a = bind_ok (f.read bytes at) (λ a. (g a.0).read bytes a.1 >>= λ b. Ok ((a.0, b.0), b.1)) (v, next) e in
      let b = bind_ok ((g a.0.0).read bytes a.0.1) (λ b. Ok ((a.0.0, b.0), b.1)) (v, next) a.2 in
      let s = lf.found bytes at a.0.0 a.0.1 fits a.1 in
      let t = (lg a.0.0 s.fits).found bytes a.0.1 b.0.0 b.0.1 fits b.1 in
      let both : Stands (depends f most g) bytes at (a.0.0, b.0.0) b.0.1 = record {
        fits = (s.fits, t.fits);
        here = s.here ∙ ap (λ (r : List ℕ). f.text a.0.0 ++ r) t.here ∙ sym (append_assoc (f.text a.0.0) ((g a.0.0).text b.0.0) (drop b.0.1 bytes));
        after = omega (arith, s.after, t.after, length-append (f.text a.0.0) ((g a.0.0).text b.0.0));
      } in
      subst (λ (p : (A × B) × ℕ). Stands (depends f most g) bytes at p.0 p.1) (ok_is ((a.0.0, b.0.0), b.0.1) (v, next) b.2) both;
  only = λ bytes at v rest fits e.
      let here : drop at bytes ≡ f.text v.0 ++ ((g v.0).text v.1 ++ rest) = e ∙ append_assoc (f.text v.0) ((g v.0).text v.1) rest in
      let first = lf.only bytes at v.0 ((g v.0).text v.1 ++ rest) fits.0 here in
      let second = (lg v.0 fits.0).only bytes (at + length (f.text v.0)) v.1 rest fits.1 (past at bytes (f.text v.0) ((g v.0).text v.1 ++ rest) here) in
      let len : at + length (f.text v.0) + length ((g v.0).text v.1) ≡ at + length (f.text v.0 ++ (g v.0).text v.1) = omega (arith, length-append (f.text v.0) ((g v.0).text v.1)) in
      rw (first, second, len) refl;
  inside = λ bytes at place fits le e.
      seq_inside f lf bytes at place (λ a. (g a.0).read bytes a.1 >>= λ b. Ok ((a.0, b.0), b.1)) fits le e
      (λ a fa lea ea. seq_inside (g a.0) (lg a.0 fa) bytes a.1 place (λ b. Ok ((a.0, b.0), b.1)) fits lea ea (λ b fb leb eb. absurd cc));
  short = λ v fits. omega (arith, lf.short v.0 fits.0, (lg v.0 fits.0).short v.1 fits.1, within v.0 fits.0, length-append (f.text v.0) ((g v.0).text v.1));
}

-- a value and then another
pub then_lawful : {A B : Type 0} (f : Format A) (g : Format B) → Lawful f → Lawful g → Lawful (f then g)
then_lawful f g lf lg = depends_lawful f g.most (λ _. g) lf (λ a fits. lg) (λ a fits. omega arith)

-- values made of their parts, both ways one to one
pub made_lawful : {A B : Type 0} (make : A → B) (parts : B → A) (f : Format A) → ((b : B) → make (parts b) ≡ b) → ((a : A) → f.Fits a → parts (make a) ≡ a) → Lawful f → Lawful (made make parts f)
made_lawful {A} {B} make parts f there back lf = record {
  found = λ bytes at v next fits e.
      let a = bind_ok (f.read bytes at) (λ a. Ok (make a.0, a.1)) (v, next) e in
      let s = lf.found bytes at a.0.0 a.0.1 fits a.1 in
      let same = back a.0.0 s.fits in
      let whole : Stands (made make parts f) bytes at (make a.0.0) a.0.1 = record { fits = rw same s.fits; here = rw same s.here; after = rw same s.after } in
      subst (λ (p : B × ℕ). Stands (made make parts f) bytes at p.0 p.1) (ok_is (make a.0.0, a.0.1) (v, next) a.2) whole;
  only = λ bytes at v rest fits e. rw (lf.only bytes at (parts v) rest fits e, there v) refl;
  inside = λ bytes at place fits le e. seq_inside f lf bytes at place (λ a. Ok (make a.0, a.1)) fits le e (λ a fa lea ea. absurd cc);
  short = λ v fits. lf.short (parts v) fits;
}

-- a tag, and then a value of that tag
pub tagged_lawful : {V : Type 0} (tag_of : V → ℕ) (tags : Format ℕ) (bodies : ℕ → Format V) → Lawful tags → ((t : ℕ) → tags.Fits t → Lawful (bodies t)) → ((t : ℕ) (v : V) → tags.Fits t → (bodies t).Fits v → tag_of v ≡ t) → ((t : ℕ) → (bodies t).most ≤ (bodies 0).most) → Lawful (tagged tag_of tags bodies)
tagged_lawful tag_of tags bodies lt lb own most =
    made_lawful (λ p. p.1) (λ v. (tag_of v, v)) (depends tags (bodies 0).most bodies) (λ v. refl) (λ p fits. ap (λ (t : ℕ). (t, p.1)) (own p.0 p.1 fits.0 fits.1)) (depends_lawful tags (bodies 0).most bodies lt lb (λ t fits. most t))

-- ---- lists

-- n values that are read stand there, one after the other
items_found : {A : Type 0} (f : Format A) → Lawful f → (n : ℕ) (bytes : List ℕ) (at : ℕ) (vs : List A) (next : ℕ) → IsBytes bytes → items_at f n bytes at ≡ Ok (vs, next)
    → (length vs ≡ n) × AllByRecursion f.Fits vs × (drop at bytes ≡ flat_map f.text vs ++ drop next bytes) × (next ≡ at + length (flat_map f.text vs))
items_found {A} f lf zero bytes at vs next fits e =
    subst (λ (p : List A × ℕ). (length p.0 ≡ 0) × AllByRecursion f.Fits p.0 × (drop at bytes ≡ flat_map f.text p.0 ++ drop p.1 bytes) × (p.1 ≡ at + length (flat_map f.text p.0))) (ok_is ([], at) (vs, next) e) (refl, tt, refl, omega arith)
items_found {A} f lf (suc n) bytes at vs next fits e =
    let a = bind_ok (f.read bytes at) (λ first. items_at f n bytes first.1 >>= λ others. Ok (first.0 ∷ others.0, others.1)) (vs, next) e in
    let b = bind_ok (items_at f n bytes a.0.1) (λ others. Ok (a.0.0 ∷ others.0, others.1)) (vs, next) a.2 in
    let s = lf.found bytes at a.0.0 a.0.1 fits a.1 in
    let t = items_found f lf n bytes a.0.1 b.0.0 b.0.1 fits b.1 in
    subst (λ (p : List A × ℕ). (length p.0 ≡ suc n) × AllByRecursion f.Fits p.0 × (drop at bytes ≡ flat_map f.text p.0 ++ drop p.1 bytes) × (p.1 ≡ at + length (flat_map f.text p.0))) (ok_is (a.0.0 ∷ b.0.0, b.0.1) (vs, next) b.2)
    (ap suc t.0, (s.fits, t.1), s.here ∙ ap (λ (r : List ℕ). f.text a.0.0 ++ r) t.2 ∙ sym (append_assoc (f.text a.0.0) (flat_map f.text b.0.0) (drop b.0.1 bytes)), omega (arith, s.after, t.3, length-append (f.text a.0.0) (flat_map f.text b.0.0)))

-- values that stand there one after the other are read
items_only : {A : Type 0} (f : Format A) → Lawful f → (vs : List A) (bytes : List ℕ) (at : ℕ) (rest : List ℕ) → AllByRecursion f.Fits vs → drop at bytes ≡ flat_map f.text vs ++ rest
    → items_at f (length vs) bytes at ≡ Ok (vs, at + length (flat_map f.text vs))
items_only f lf [] bytes at rest fits e = ap (λ (k : ℕ). done ([], k)) (omega arith)
items_only f lf (v ∷ vs) bytes at rest fits e =
    let here : drop at bytes ≡ f.text v ++ (flat_map f.text vs ++ rest) = e ∙ append_assoc (f.text v) (flat_map f.text vs) rest in
    let first = lf.only bytes at v (flat_map f.text vs ++ rest) fits.0 here in
    let second = items_only f lf vs bytes (at + length (f.text v)) rest fits.1 (past at bytes (f.text v) (flat_map f.text vs ++ rest) here) in
    let len : at + length (f.text v) + length (flat_map f.text vs) ≡ at + length (f.text v ++ flat_map f.text vs) = omega (arith, length-append (f.text v) (flat_map f.text vs)) in
    rw (first, second, len) refl

-- a fault of n values lies within the bytes
items_inside : {A : Type 0} (f : Format A) → Lawful f → (n : ℕ) (bytes : List ℕ) (at place : ℕ) → IsBytes bytes → at ≤ length bytes → items_at f n bytes at ≡ Err place → place ≤ length bytes
items_inside f lf zero bytes at place fits le e = absurd cc
items_inside f lf (suc n) bytes at place fits le e =
    seq_inside f lf bytes at place (λ first. items_at f n bytes first.1 >>= λ others. Ok (first.0 ∷ others.0, others.1)) fits le e
    (λ a fa lea ea. elim (bind_err (items_at f n bytes a.1) (λ others. Ok (a.0 ∷ others.0, others.1)) place ea) [
      | inl p ↦ items_inside f lf n bytes a.1 place fits lea p
      | inr q ↦ absurd (let bad = q.2 in cc)
    ])

-- the texts of some values are no longer than so many of the greatest length
items_short : {A : Type 0} (f : Format A) → Lawful f → (vs : List A) → AllByRecursion f.Fits vs → length (flat_map f.text vs) ≤ length vs * f.most
items_short f lf [] fits = omega arith
items_short f lf (v ∷ vs) fits = omega (arith, lf.short v fits.0, items_short f lf vs fits.1, length-append (f.text v) (flat_map f.text vs))

-- a count and the texts of at most so many values are no longer than said
counted_short : {A : Type 0} (w most : ℕ) (f : Format A) → Lawful f → (vs : List A) → length vs ≤ most → AllByRecursion f.Fits vs → length (spelled w (length vs) ++ flat_map f.text vs) ≤ w + most * f.most
counted_short w most f lf vs le fits =
    let all = items_short f lf vs fits in
    let times : length vs * f.most ≤ most * f.most = mul-le-mul_right f.most le in
    omega (arith, length-append (spelled w (length vs)) (flat_map f.text vs), length-spelled w (length vs))

-- a count and that many values, at most so many
pub list_lawful : {A : Type 0} (w most : ℕ) (f : Format A) → 0 < w → most < 256 ^ w → Lawful f → Lawful (list w most f)
list_lawful {A} w most f some wide lf =
    let count = number_lawful w 0 (most + 1) some (omega arith) in record {
      found = λ bytes at v next fits e.
          let a = bind_ok (number_at w 0 (most + 1) bytes at) (λ n. items_at f n.0 bytes n.1) (v, next) e in
          let s = count.found bytes at a.0.0 a.0.1 fits a.1 in
          let t = items_found f lf a.0.0 bytes a.0.1 v next fits a.2 in
          record {
            fits = (omega (arith, s.fits.1, t.0), t.1);
            here = s.here ∙ ap (λ (r : List ℕ). spelled w a.0.0 ++ r) t.2 ∙ sym (append_assoc (spelled w a.0.0) (flat_map f.text v) (drop next bytes)) ∙ ap (λ (k : ℕ). (spelled w k ++ flat_map f.text v) ++ drop next bytes) (sym t.0);
            after = omega (arith, s.after, t.3, length-append (spelled w (length v)) (flat_map f.text v), length-spelled w a.0.0, length-spelled w (length v));
          };
      only = λ bytes at v rest fits e.
          let here : drop at bytes ≡ spelled w (length v) ++ (flat_map f.text v ++ rest) = e ∙ append_assoc (spelled w (length v)) (flat_map f.text v) rest in
          let first = count.only bytes at (length v) (flat_map f.text v ++ rest) (omega arith, omega (arith, fits.0)) here in
          let second = items_only f lf v bytes (at + length (spelled w (length v))) rest fits.1 (past at bytes (spelled w (length v)) (flat_map f.text v ++ rest) here) in
          let len : at + length (spelled w (length v)) + length (flat_map f.text v) ≡ at + length (spelled w (length v) ++ flat_map f.text v) = omega (arith, length-append (spelled w (length v)) (flat_map f.text v)) in
          ap (λ (r : Reading ℕ). r >>= λ n. items_at f n.0 bytes n.1) first ∙ second ∙ ap (λ (k : ℕ). done (v, k)) len;
      inside = λ bytes at place fits le e.
          seq_inside (number w 0 (most + 1)) count bytes at place (λ n. items_at f n.0 bytes n.1) fits le e
          (λ a fa lea ea. items_inside f lf a.0 bytes a.1 place fits lea ea);
      short = λ v fits. counted_short w most f lf v fits.0 fits.1;
    }

-- ---- a tag, and what it says

-- the text of a variant is no longer than that of its part
variant_short : {A : Type 0} (f : Format A) → Lawful f → (o : Option A) → PartFits f o → length (part_text f o) ≤ f.most
variant_short f lf None fits = absurd fits
variant_short f lf (Some a) fits = lf.short a fits

-- a variant that stands there is read
variant_only : {A V : Type 0} (make : A → V) (part : V → Option A) (f : Format A) → IsVariant make part → Lawful f → (bytes : List ℕ) (at : ℕ) (v : V) (rest : List ℕ) (o : Option A) → part v ≡ o → PartFits f o → drop at bytes ≡ part_text f o ++ rest
    → (variant make part f).read bytes at ≡ Ok (v, at + length (part_text f o))
variant_only make part f is lf bytes at v rest None has fits e = absurd fits
variant_only make part f is lf bytes at v rest (Some a) has fits e = rw (lf.only bytes at a rest fits e, is.there v a has) refl

-- one variant of an enum
pub variant_lawful : {A V : Type 0} (make : A → V) (part : V → Option A) (f : Format A) → IsVariant make part → Lawful f → Lawful (variant make part f)
variant_lawful {A} {V} make part f is lf = record {
  found = λ bytes at v next fits e.
      let a = bind_ok (f.read bytes at) (λ a. Ok (make a.0, a.1)) (v, next) e in
      let s = lf.found bytes at a.0.0 a.0.1 fits a.1 in
      let whole : Stands (variant make part f) bytes at (make a.0.0) a.0.1 = record {
        fits = rw (is.back a.0.0) s.fits;
        here = rw (is.back a.0.0) s.here;
        after = rw (is.back a.0.0) s.after;
      } in
      subst (λ (p : V × ℕ). Stands (variant make part f) bytes at p.0 p.1) (ok_is (make a.0.0, a.0.1) (v, next) a.2) whole;
  only = λ bytes at v rest fits e. variant_only make part f is lf bytes at v rest (part v) refl fits e;
  inside = λ bytes at place fits le e. seq_inside f lf bytes at place (λ a. Ok (make a.0, a.1)) fits le e (λ a fa lea ea. absurd cc);
  short = λ v fits. variant_short f lf (part v) fits;
}

-- ---- a choice by tags

-- no value at all
pub never_lawful : {V : Type 0} → Lawful (never {V = V})
never_lawful = record {
  found = λ bytes at v next fits e. absurd cc;
  only = λ bytes at v rest fits e. absurd fits;
  inside = λ bytes at place fits le e. let same : at ≡ place = cc in omega arith;
  short = λ v fits. absurd fits;
}

-- each tag's format is lawful, and has only values of that tag
pub record IsChoice {V : Type 0} (tag_of : V → ℕ) (formats : ℕ → Format V) : Type 0 where
  pub lawful : (tag : ℕ) → Lawful (formats tag)
  pub own : (tag : ℕ) (v : V) → (formats tag).Fits v → tag_of v ≡ tag
  pub same_most : (tag : ℕ) → (formats tag).most ≡ (formats 0).most

-- no tags at all
pub no_choice : {V : Type 0} (tag_of : V → ℕ) → IsChoice tag_of (λ _. never)
no_choice tag_of = record { lawful = λ tag. never_lawful; own = λ tag v fits. absurd fits; same_most = λ tag. refl }

-- one of two formats, as a test says
either_law : {V : Type 0} (f g : Format V) (b : Bool) → Lawful f → Lawful g → Lawful (either f g b)
either_law f g true lf lg = record {
  found = λ bytes at v next fits e. let s = lf.found bytes at v next fits e in record { fits = s.fits; here = s.here; after = s.after };
  only = lf.only;
  inside = lf.inside;
  short = λ v fits. le_trans (lf.short v fits) (omega arith);
}
either_law f g false lf lg = record {
  found = λ bytes at v next fits e. let s = lg.found bytes at v next fits e in record { fits = s.fits; here = s.here; after = s.after };
  only = lg.only;
  inside = lg.inside;
  short = λ v fits. le_trans (lg.short v fits) (omega arith);
}

-- the values of one of two formats have its tag
either_own : {V : Type 0} (tag_of : V → ℕ) (t tag : ℕ) (f g : Format V) (b : Bool) → eqb tag t ≡ b → ((v : V) → f.Fits v → tag_of v ≡ t) → ((v : V) → g.Fits v → tag_of v ≡ tag) → (v : V) → (either f g b).Fits v → tag_of v ≡ tag
either_own tag_of t tag f g true e here there v fits = here v fits ∙ sym (eqb-true tag t e)
either_own tag_of t tag f g false e here there v fits = there v fits

-- one format for a tag, before those of other tags
pub more_choice : {V : Type 0} (tag_of : V → ℕ) (t : ℕ) (f : Format V) (others : ℕ → Format V) → Lawful f → ((v : V) → f.Fits v → tag_of v ≡ t) → IsChoice tag_of others → IsChoice tag_of (choice t f others)
more_choice tag_of t f others lf own rest = record {
  lawful = λ tag. either_law f (others tag) (eqb tag t) lf (rest.lawful tag);
  own = λ tag v fits. either_own tag_of t tag f (others tag) (eqb tag t) refl own (rest.own tag) v fits;
  same_most = λ tag. ap (max f.most) (rest.same_most tag);
}

-- a variant has its tag
variant_case : {A V : Type 0} (make : A → V) (part : V → Option A) (f : Format A) (tag_of : V → ℕ) (t : ℕ) → IsVariant make part → ((a : A) → tag_of (make a) ≡ t) → (v : V) (o : Option A) → part v ≡ o → PartFits f o → tag_of v ≡ t
variant_case make part f tag_of t is tags v None has fits = absurd fits
variant_case make part f tag_of t is tags v (Some a) has fits = ap tag_of (sym (is.there v a has)) ∙ tags a

-- one variant and its tag
pub variant_choice : {A V : Type 0} (tag_of : V → ℕ) (t : ℕ) (make : A → V) (part : V → Option A) (f : Format A) (others : ℕ → Format V) → IsVariant make part → ((a : A) → tag_of (make a) ≡ t) → Lawful f → IsChoice tag_of others → IsChoice tag_of (choice t (variant make part f) others)
variant_choice tag_of t make part f others is tags lf rest =
    more_choice tag_of t (variant make part f) others (variant_lawful make part f is lf) (λ v fits. variant_case make part f tag_of t is tags v (part v) refl fits) rest

-- a tag, and then one of the formats by tags
pub choice_lawful : {V : Type 0} (tag_of : V → ℕ) (tags : Format ℕ) (formats : ℕ → Format V) → Lawful tags → IsChoice tag_of formats → Lawful (tagged tag_of tags formats)
choice_lawful tag_of tags formats lt c = tagged_lawful tag_of tags formats lt (λ t fits. c.lawful t) (λ t v ft fits. c.own t v fits) (λ t. omega (arith, c.same_most t))

-- ---- a flag

-- a flag, 0 or 1
pub flag_lawful : Lawful (number 1 0 2)
flag_lawful = number_lawful 1 0 2 (omega arith) (omega arith)

-- ---- codes, tests

-- a value that was read past a code came of the code that stands for it
some_case : {A B : Type 0} (o : Option A) (d : ℕ) (some : A → Result B ℕ) (y : B) → option_case o (Err d) some ≡ Ok y → (x : A) × (o ≡ Some x) × (some x ≡ Ok y)
some_case None d some y e = absurd cc
some_case (Some x) d some y e = (x, refl, e)

-- a fault at a code is there
err_case : {A B : Type 0} (o : Option A) (d : ℕ) (some : A → B) (p : ℕ) → option_case o (Err d) (λ x. Ok (some x)) ≡ Err p → d ≡ p
err_case None d some p e = cc
err_case (Some x) d some p e = absurd cc

-- a code is that of the value that it stands for
pub coded_lawful : {A B : Type 0} (value : A → Option B) (code : B → A) (f : Format A) → ((a : A) (b : B) → f.Fits a → value a ≡ Some b → code b ≡ a) → Lawful f → Lawful (coded value code f)
coded_lawful {A} {B} value code f own lf = record {
  found = λ bytes at v next fits e.
      let a = bind_ok (f.read bytes at) (λ a. code_at value at a) (v, next) e in
      let b = some_case (value a.0.0) at (λ b. Ok (b, a.0.1)) (v, next) a.2 in
      let s = lf.found bytes at a.0.0 a.0.1 fits a.1 in
      let is : a.0.0 ≡ code b.0 = sym (own a.0.0 b.0 s.fits b.1) in
      let whole : Stands (coded value code f) bytes at b.0 a.0.1 = record {
        fits = (subst f.Fits is s.fits, ap value (sym is) ∙ b.1);
        here = subst (λ (x : A). drop at bytes ≡ f.text x ++ drop a.0.1 bytes) is s.here;
        after = subst (λ (x : A). a.0.1 ≡ at + length (f.text x)) is s.after;
      } in
      subst (λ (p : B × ℕ). Stands (coded value code f) bytes at p.0 p.1) (ok_is (b.0, a.0.1) (v, next) b.2) whole;
  only = λ bytes at v rest fits e. rw (lf.only bytes at (code v) rest fits.0 e, fits.1) refl;
  inside = λ bytes at place fits le e.
      seq_inside f lf bytes at place (λ a. code_at value at a) fits le e
      (λ a fa lea ea. let made : B → B × ℕ = λ (b : B). (b, a.1) in let p = err_case (value a.0) at made place ea in omega arith);
  short = λ v fits. lf.short (code v) fits.0;
}

-- a value of which nothing is said
pub absent_lawful : {A : Type 0} (value : A) → Lawful (absent value)
absent_lawful value = coded_lawful (λ _. Some value) (λ _. tt) nothing (λ a b fits e. refl) nothing_lawful

-- what is said from a version on
pub since_lawful : {A : Type 0} (first : ℕ) (old : A) (f : Format A) (version : ℕ) → Lawful f → Lawful (since first old f version)
since_lawful first old f version lf = either_law f (absent old) (nat_le first version) lf (absent_lawful old)

-- a value of one of two formats is one of the first or of the second
pub either_fits : {V : Type 0} (f g : Format V) (b : Bool) (v : V) (P : Type 0) → (f.Fits v → P) → (g.Fits v → P) → (either f g b).Fits v → P
either_fits f g true v P one other h = one h
either_fits f g false v P one other h = other h

-- only the values that pass a test
pub kept_lawful : {A : Type 0} (test : A → Bool) (f : Format A) → Lawful f → Lawful (kept test f)
kept_lawful {A} test f lf = record {
  found = λ bytes at v next fits e.
      let a = bind_ok (f.read bytes at) (λ a. cond (test a.0) (Ok a) (Err at)) (v, next) e in
      let b = guard_in (test a.0.0) at a.0 (v, next) a.2 in
      let s = lf.found bytes at a.0.0 a.0.1 fits a.1 in
      let whole : Stands (kept test f) bytes at a.0.0 a.0.1 = record { fits = (s.fits, b.0); here = s.here; after = s.after } in
      subst (λ (p : A × ℕ). Stands (kept test f) bytes at p.0 p.1) b.1 whole;
  only = λ bytes at v rest fits e. rw (lf.only bytes at v rest fits.0 e, fits.1) refl;
  inside = λ bytes at place fits le e.
      seq_inside f lf bytes at place (λ a. cond (test a.0) (Ok a) (Err at)) fits le e
      (λ a fa lea ea. let p = err_in (test a.0) at a place ea in omega arith);
  short = λ v fits. lf.short v fits.0;
}

-- values that texts know each from a version on
pub known_lawful : {A : Type 0} (first : A → ℕ) (f : Format A) (version : ℕ) → Lawful f → Lawful (known first f version)
known_lawful first f version lf = kept_lawful (λ x. nat_le (first x) version) f lf

-- ---- lists under a rule

-- n values under a rule that are read stand there, and keep it
ruled_found : {A : Type 0} (rule : List A → A → Bool) (f : Format A) (behind : List A → Format A) → IsRuled rule f behind → (n : ℕ) (front : List A) (bytes : List ℕ) (at : ℕ) (vs : List A) (next : ℕ) → IsBytes bytes → ruled_at behind front n bytes at ≡ Ok (vs, next)
    → (length vs ≡ n) × ((keeps rule front vs ≡ true) × AllByRecursion f.Fits vs) × (drop at bytes ≡ flat_map f.text vs ++ drop next bytes) × (next ≡ at + length (flat_map f.text vs))
ruled_found {A} rule f behind is zero front bytes at vs next fits e =
    subst (λ (p : List A × ℕ). (length p.0 ≡ 0) × ((keeps rule front p.0 ≡ true) × AllByRecursion f.Fits p.0) × (drop at bytes ≡ flat_map f.text p.0 ++ drop p.1 bytes) × (p.1 ≡ at + length (flat_map f.text p.0))) (ok_is ([], at) (vs, next) e) (refl, (refl, tt), refl, omega arith)
ruled_found {A} rule f behind is (suc n) front bytes at vs next fits e =
    let a = bind_ok ((behind front).read bytes at) (λ first. ruled_at behind (front ++ first.0 ∷ []) n bytes first.1 >>= λ others. Ok (first.0 ∷ others.0, others.1)) (vs, next) e in
    let b = bind_ok (ruled_at behind (front ++ a.0.0 ∷ []) n bytes a.0.1) (λ others. Ok (a.0.0 ∷ others.0, others.1)) (vs, next) a.2 in
    let s = (is.lawful front).found bytes at a.0.0 a.0.1 fits a.1 in
    let p = is.keeps_rule front a.0.0 s.fits in
    let text = is.same_text front a.0.0 in
    let here : drop at bytes ≡ f.text a.0.0 ++ drop a.0.1 bytes = s.here ∙ ap (λ (r : List ℕ). r ++ drop a.0.1 bytes) text in
    let after : a.0.1 ≡ at + length (f.text a.0.0) = s.after ∙ ap (λ (r : List ℕ). at + length r) text in
    let t = ruled_found rule f behind is n (front ++ a.0.0 ∷ []) bytes a.0.1 b.0.0 b.0.1 fits b.1 in
    subst (λ (p : List A × ℕ). (length p.0 ≡ suc n) × ((keeps rule front p.0 ≡ true) × AllByRecursion f.Fits p.0) × (drop at bytes ≡ flat_map f.text p.0 ++ drop p.1 bytes) × (p.1 ≡ at + length (flat_map f.text p.0))) (ok_is (a.0.0 ∷ b.0.0, b.0.1) (vs, next) b.2)
    (ap suc t.0, (both_true p.1 t.1.0, (p.0, t.1.1)), here ∙ ap (λ (r : List ℕ). f.text a.0.0 ++ r) t.2 ∙ sym (append_assoc (f.text a.0.0) (flat_map f.text b.0.0) (drop b.0.1 bytes)), omega (arith, after, t.3, length-append (f.text a.0.0) (flat_map f.text b.0.0)))

-- values under a rule that stand there are read
ruled_only : {A : Type 0} (rule : List A → A → Bool) (f : Format A) (behind : List A → Format A) → IsRuled rule f behind → (vs front : List A) (bytes : List ℕ) (at : ℕ) (rest : List ℕ) → keeps rule front vs ≡ true → AllByRecursion f.Fits vs → drop at bytes ≡ flat_map f.text vs ++ rest
    → ruled_at behind front (length vs) bytes at ≡ Ok (vs, at + length (flat_map f.text vs))
ruled_only rule f behind is [] front bytes at rest kept fits e = ap (λ (k : ℕ). done ([], k)) (omega arith)
ruled_only rule f behind is (v ∷ vs) front bytes at rest kept fits e =
    let may = first_so (rule front v) (keeps rule (front ++ v ∷ []) vs) kept in
    let more = second_so (rule front v) (keeps rule (front ++ v ∷ []) vs) kept in
    let text = is.same_text front v in
    let here : drop at bytes ≡ f.text v ++ (flat_map f.text vs ++ rest) = e ∙ append_assoc (f.text v) (flat_map f.text vs) rest in
    let stands : drop at bytes ≡ (behind front).text v ++ (flat_map f.text vs ++ rest) = here ∙ ap (λ (r : List ℕ). r ++ (flat_map f.text vs ++ rest)) (sym text) in
    let first : (behind front).read bytes at ≡ Ok (v, at + length (f.text v)) = (is.lawful front).only bytes at v (flat_map f.text vs ++ rest) (is.has_text front v fits.0 may) stands ∙ ap (λ (r : List ℕ). done (v, at + length r)) text in
    let second = ruled_only rule f behind is vs (front ++ v ∷ []) bytes (at + length (f.text v)) rest more fits.1 (past at bytes (f.text v) (flat_map f.text vs ++ rest) here) in
    let len : at + length (f.text v) + length (flat_map f.text vs) ≡ at + length (f.text v ++ flat_map f.text vs) = omega (arith, length-append (f.text v) (flat_map f.text vs)) in
    rw (first, second, len) refl

-- a fault of n values under a rule lies within the bytes
ruled_inside : {A : Type 0} (behind : List A → Format A) → ((front : List A) → Lawful (behind front)) → (n : ℕ) (front : List A) (bytes : List ℕ) (at place : ℕ) → IsBytes bytes → at ≤ length bytes → ruled_at behind front n bytes at ≡ Err place → place ≤ length bytes
ruled_inside behind lawful zero front bytes at place fits le e = absurd cc
ruled_inside behind lawful (suc n) front bytes at place fits le e =
    seq_inside (behind front) (lawful front) bytes at place (λ first. ruled_at behind (front ++ first.0 ∷ []) n bytes first.1 >>= λ others. Ok (first.0 ∷ others.0, others.1)) fits le e
    (λ a fa lea ea. elim (bind_err (ruled_at behind (front ++ a.0 ∷ []) n bytes a.1) (λ others. Ok (a.0 ∷ others.0, others.1)) place ea) [
      | inl p ↦ ruled_inside behind lawful n (front ++ a.0 ∷ []) bytes a.1 place fits lea p
      | inr q ↦ absurd (let bad = q.2 in cc)
    ])

-- a count and that many values under a rule
pub ruled_list_lawful : {A : Type 0} (w most : ℕ) (rule : List A → A → Bool) (f : Format A) (behind : List A → Format A) → 0 < w → most < 256 ^ w → Lawful f → IsRuled rule f behind → Lawful (ruled_list w most rule f behind)
ruled_list_lawful {A} w most rule f behind some wide lf is =
    let count = number_lawful w 0 (most + 1) some (omega arith) in record {
      found = λ bytes at v next fits e.
          let a = bind_ok (number_at w 0 (most + 1) bytes at) (λ n. ruled_at behind [] n.0 bytes n.1) (v, next) e in
          let s = count.found bytes at a.0.0 a.0.1 fits a.1 in
          let t = ruled_found rule f behind is a.0.0 [] bytes a.0.1 v next fits a.2 in
          record {
            fits = (omega (arith, s.fits.1, t.0), t.1.0, t.1.1);
            here = s.here ∙ ap (λ (r : List ℕ). spelled w a.0.0 ++ r) t.2 ∙ sym (append_assoc (spelled w a.0.0) (flat_map f.text v) (drop next bytes)) ∙ ap (λ (k : ℕ). (spelled w k ++ flat_map f.text v) ++ drop next bytes) (sym t.0);
            after = omega (arith, s.after, t.3, length-append (spelled w (length v)) (flat_map f.text v), length-spelled w a.0.0, length-spelled w (length v));
          };
      only = λ bytes at v rest fits e.
          let here : drop at bytes ≡ spelled w (length v) ++ (flat_map f.text v ++ rest) = e ∙ append_assoc (spelled w (length v)) (flat_map f.text v) rest in
          let first = count.only bytes at (length v) (flat_map f.text v ++ rest) (omega arith, omega (arith, fits.0)) here in
          let second = ruled_only rule f behind is v [] bytes (at + length (spelled w (length v))) rest fits.1 fits.2 (past at bytes (spelled w (length v)) (flat_map f.text v ++ rest) here) in
          let len : at + length (spelled w (length v)) + length (flat_map f.text v) ≡ at + length (spelled w (length v) ++ flat_map f.text v) = omega (arith, length-append (spelled w (length v)) (flat_map f.text v)) in
          ap (λ (r : Reading ℕ). r >>= λ n. ruled_at behind [] n.0 bytes n.1) first ∙ second ∙ ap (λ (k : ℕ). done (v, k)) len;
      inside = λ bytes at place fits le e.
          seq_inside (number w 0 (most + 1)) count bytes at place (λ n. ruled_at behind [] n.0 bytes n.1) fits le e
          (λ a fa lea ea. ruled_inside behind is.lawful a.0 [] bytes a.1 place fits lea ea);
      short = λ v fits. counted_short w most f lf v fits.0 fits.2;
    }

-- a rule that is asked of the whole value
pub kept_is_ruled : {A : Type 0} (rule : List A → A → Bool) (f : Format A) → Lawful f → IsRuled rule f (λ front. kept (rule front) f)
kept_is_ruled rule f lf = record {
  lawful = λ front. kept_lawful (rule front) f lf;
  same_text = λ front v. refl;
  keeps_rule = λ front v fits. fits;
  has_text = λ front v fits may. (fits, may);
}

-- a rule that is asked of the key
pub keyed_is_ruled : {K R V : Type 0} (rule : List V → K → Bool) (make : K × R → V) (parts : V → K × R) (key : Format K) (others : Format R)
    → ((v : V) → make (parts v) ≡ v) → ((a : K × R) → parts (make a) ≡ a) → Lawful key → Lawful others → IsRuled (λ front v. rule front (parts v).0) (keyed make parts key others) (keyed_behind rule make parts key others)
keyed_is_ruled rule make parts key others there back lk lo = record {
  lawful = λ front. made_lawful make parts _ there (λ a fits. back a) (then_lawful _ _ (kept_lawful (rule front) key lk) lo);
  same_text = λ front v. refl;
  keeps_rule = λ front v fits. ((fits.0.0, fits.1), fits.0.1);
  has_text = λ front v fits may. ((fits.0, may), fits.1);
}

-- ---- enums by one byte

some_is : {V : Type 0} (a b : V) → Some a ≡ Some b → a ≡ b
some_is a b e = cc

head_is : (x y : ℕ) (xs ys : List ℕ) → x ∷ xs ≡ y ∷ ys → x ≡ y
head_is x y xs ys e = cc

tail_is : (x y : ℕ) (xs ys : List ℕ) → x ∷ xs ≡ y ∷ ys → xs ≡ ys
tail_is x y xs ys e = cc

-- a value that a code stands for has that code, where the values have the codes from the first on
value_again : {V : Type 0} (code : V → ℕ) (first : ℕ) (values : List V) → map code values ≡ range_with_len first (length values) → (n : ℕ) (v : V) → value_in first values n ≡ Some v → code v ≡ n
value_again code first [] codes n v e = absurd cc
value_again code first (x ∷ xs) codes n v e =
    elim (cases_eq n first) [
      | inl same ↦ let f = rw (eq-eqb _ _ same) at e in ap code (sym (some_is x v f)) ∙ head_is (code x) first (map code xs) (range_with_len (first + 1) (length xs)) codes ∙ sym same
      | inr other ↦ let f = rw (ne_eqb _ _ other) at e in value_again code (first + 1) xs (tail_is (code x) first (map code xs) (range_with_len (first + 1) (length xs)) codes) n v f
    ]

pub enumerated_lawful : {V : Type 0} (first : ℕ) (values : List V) (code : V → ℕ) → map code values ≡ range_with_len first (length values) → Lawful (enumerated first values code)
enumerated_lawful first values code codes = coded_lawful (value_in first values) code (number 1 0 256) (λ a b fits e. value_again code first values codes a b e) (number_lawful 1 0 256 (omega arith) (omega arith))

-- a value that a number stands for has that number
with_number_again : {V : Type 0} (number_of : V → ℕ) (values : List V) (n : ℕ) (v : V) → with_number number_of values n ≡ Some v → number_of v ≡ n
with_number_again number_of [] n v e = absurd cc
with_number_again number_of (x ∷ xs) n v e =
    elim (cases_eq n (number_of x)) [
      | inl same ↦ let f = rw (eq-eqb _ _ same) at e in ap number_of (sym (some_is x v f)) ∙ sym same
      | inr other ↦ let f = rw (ne_eqb _ _ other) at e in with_number_again number_of xs n v f
    ]

pub numbered_lawful : {V : Type 0} (values : List V) (number_of : V → ℕ) → Lawful (numbered values number_of)
numbered_lawful values number_of = coded_lawful (with_number number_of values) number_of (number 1 0 256) (λ a b fits e. with_number_again number_of values a b e) (number_lawful 1 0 256 (omega arith) (omega arith))
