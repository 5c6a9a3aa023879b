-- The laws of the text of what is stored: its format, and how its bytes are read.
use Rattle.std.proofs.Common.{◌≡◌, ◌≢◌, ℕ, zero, suc, ◌+◌, ◌-◌, ◌^◌, ◌<◌, ◌≤◌, Bool, true, false, cond, ltb, eqb, ◌||◌, List, [], ◌++◌, length, drop, Option, Some, None, Result, Ok, Err, refl, sym, ap, subst, ◌∙◌, append_assoc, arith, inl, inr, length-append, length-drop}
use Rattle.std.proofs.Math.Nat.{le_refl, mul-le-mul_right}
use Rattle.std.proofs.lemmas.Bool.{and_parts, eqb-true, eq-eqb, lt-ltb, cases_eq, ne_eqb}
use Rattle.std.proofs.lemmas.List.{append_cancel_left, append-nil, drop_all, drop_at, get_or-drop}
use Rattle.std.proofs.lemmas.Slice.Eq.{bytes_eq-Decides}
use Rattle.std.specs.Prelude.{IfOk}
use Rattle.rows.specs.Versions.{newest}
use Rattle.rows.specs.declared.refusal.Refusal.{Refusal}
use Rattle.rows.specs.declared.refusal.Refusal.TheVariants as refusals
use Rattle.fields_model.specs.Format.{◌>>=◌, Gives, Refuses, Format, spelled, number_at, number, placed, whole, moved, IsBytes, Stands, Lawful}
use Rattle.fields_model.specs.Fields.{term}
use Rattle.fields_model.specs.Services.{leader_of, leader_number}
use Rattle.fields_model.proofs.FormatLaws.{bind_ok, ok_is, seq_inside, number_lawful, then_lawful, depends_lawful, made_lawful, list_lawful, coded_lawful, kept_lawful, past}
use Rattle.fields_model.proofs.FieldLaws.{term_lawful, index_lawful}
use Rattle.fields_model.proofs.PlacedLaws.{placed_lawful}
use Rattle.fields_model.proofs.WholeTexts.{whole_found, no_text_begins_another}
use Rattle.machine_model.specs.MachineSpec.{MachineSpec, LawfulMachine}
use Rattle.machine_model.specs.Entries.{entry}
use Rattle.machine_model.specs.declared.entry.Entry.{Entry}
use Rattle.machine_model.proofs.EntryLaws.{entry_lawful}
use Rattle.raft_snapshot.specs.Bases.{IsSnapshot, noop_prefix}
use Rattle.raft_snapshot.specs.Stored.{Stored}
use Rattle.raft_snapshot.specs.Texts.{vote, covered, most_behind, entries, Front, front, stored_of, parts_of, stable, stable_text, StableFits, IsStableText, agrees, state_offset, stable_at}
use Rattle.raft_snapshot.specs.Inner.Faults.{moved_fault}
use Rattle.raft_snapshot.proofs.Blanks.{noop_prefix-length}

-- ---- in front of the state

vote_again : (o : Option ℕ) → leader_of (leader_number o) ≡ o
vote_again None = refl
vote_again (Some place) = let next : place + 1 ≡ suc place = omega arith in ap leader_of next

number_again : (n : ℕ) → leader_number (leader_of n) ≡ n
number_again zero = refl
number_again (suc place) = omega arith

vote_lawful : Lawful vote
vote_lawful = made_lawful _ _ _ vote_again (λ n fits. number_again n) (number_lawful 1 0 6 (omega arith) (omega arith))

pub covered_lawful : Lawful covered
covered_lawful = depends_lawful _ _ _ index_lawful (λ n fits. kept_lawful _ term term_lawful) (λ n fits. le_refl 8)

pub entries_lawful : {C : Type 0} (commands : Format C) (n : ℕ) → Lawful commands → Lawful (entries commands n)
entries_lawful commands n lc = list_lawful 8 (most_behind n) (entry (placed commands)) (omega arith) (omega arith) (entry_lawful (placed commands) (placed_lawful commands lc))

entries_short : {C : Type 0} (commands : Format C) (n : ℕ) → (entries commands n).most ≤ (entries commands 0).most
entries_short commands n =
    let fewer : most_behind n ≤ most_behind 0 = omega arith in
    let more = mul-le-mul_right (entry (placed commands)).most fewer in
    omega arith

pub front_lawful : {C : Type 0} (commands : Format C) → Lawful commands → Lawful (front commands)
front_lawful commands lc = made_lawful _ _ _ (λ _. refl) (λ _ _. refl) (then_lawful _ _ term_lawful (then_lawful _ _ vote_lawful
    (depends_lawful covered _ (λ (c : ℕ × ℕ). entries commands c.0) covered_lawful (λ c fits. entries_lawful commands c.0 lc) (λ c fits. entries_short commands c.0))))

-- where no entry is covered, the term is 0
pub none_covered : (n t : ℕ) → (ltb 0 n || eqb t 0) ≡ true → n ≡ 0 → t ≡ 0
none_covered zero t is none = eqb-true _ _ is
none_covered (suc n) t is none = absurd (omega (arith, none))

-- what is covered, and the entries behind it, as they are read, have a place each, and no term where
-- nothing is covered
pub front_keeps : {C : Type 0} (commands : Format C) → Lawful commands → (bytes : List ℕ) (n t at behind end : ℕ) (es : List (Entry C)) → IsBytes bytes
    → covered.read bytes at ≡ Ok ((n, t), behind) → (entries commands n).read bytes behind ≡ Ok (es, end) → (n ≡ 0 → t ≡ 0) × (n + length es < 2 ^ 40)
front_keeps commands lc bytes n t at behind end es fits is are =
    let base = covered_lawful.found bytes at (n, t) behind fits is in
    let all = (entries_lawful commands n lc).found bytes behind es end fits are in
    (none_covered n t base.fits.1.1, omega (arith, all.fits.0, base.fits.0.1))

-- ---- the format

-- what stands behind the blank entries is the rest
behind_blank : {S C : Type 0} (m : MachineSpec S C) (f : Front C) → drop f.index (noop_prefix m f.index f.index_term ++ f.entries) ≡ f.entries
behind_blank m f = drop_at (noop_prefix m f.index f.index_term) f.entries f.index (noop_prefix-length m f.index f.index_term [])

parts_again : {S C : Type 0} (m : MachineSpec S C) (p : Front C × S) → parts_of (stored_of m p) ≡ p
parts_again {S} {C} m p =
    let made : List _ → Front C × S = λ (l : List _). (record { term = p.0.term; vote = p.0.vote; index = p.0.index; index_term = p.0.index_term; entries = l }, p.1) in
    ap made (behind_blank m p.0)

some_is : {A : Type 0} (a b : A) → Some a ≡ Some b → a ≡ b
some_is a b e = cc

pub stable_lawful : {S C : Type 0} (m : MachineSpec S C) (version : ℕ) → Lawful (m.commands version) → Lawful (m.states version) → Lawful (stable m version)
stable_lawful m version lc ls = coded_lawful _ parts_of _ (λ p s fits e. ap parts_of (sym (some_is _ s e)) ∙ parts_again m p) (then_lawful _ _ (front_lawful (m.commands version) lc) (placed_lawful (m.states version) ls))

-- ---- the state and what it is to agree with

-- a term that is 0 where none is covered passes the test
pub covered_tested : (n t : ℕ) → (n ≡ 0 → t ≡ 0) → (ltb 0 n || eqb t 0) ≡ true
covered_tested zero t none = eq-eqb _ _ (none refl)
covered_tested (suc n) t none = rw (lt-ltb 0 (suc n) (omega arith)) refl

same_text : {S C : Type 0} (m : MachineSpec S C) → LawfulMachine m → (state : S) → (m.states newest).Fits state → (m.states newest).text state ≡ (m.states newest).text m.empty → state ≡ m.empty
same_text m law state fits e = no_text_begins_another (m.states newest) (law.states_lawful newest) state m.empty [] [] fits law.empty_fits (ap (λ (l : List ℕ). l ++ []) e)

agreed : {S C : Type 0} (m : MachineSpec S C) → LawfulMachine m → (n : ℕ) (state : S) → (m.states newest).Fits state → agrees m n state ≡ true → (m.count state ≡ n) × (n ≡ 0 → state ≡ m.empty)
agreed m law zero state fits is =
    let both = and_parts _ _ is in
    (eqb-true _ _ both.0, λ _. same_text m law state fits ((bytes_eq-Decides ((m.states newest).text state) ((m.states newest).text m.empty)).0 both.1))
agreed m law (suc n) state fits is = (eqb-true _ _ (and_parts _ _ is).0, λ none. absurd (omega (arith, none)))

agreeing : {S C : Type 0} (m : MachineSpec S C) (n : ℕ) (state : S) → m.count state ≡ n → (n ≡ 0 → state ≡ m.empty) → agrees m n state ≡ true
agreeing m zero state count first = rw (eq-eqb _ _ count, (bytes_eq-Decides ((m.states newest).text state) ((m.states newest).text m.empty)).1 (ap (m.states newest).text (first refl))) refl
agreeing m (suc n) state count first = rw (eq-eqb _ _ count, lt-ltb 0 (suc n) (omega arith)) refl

-- a state that agrees is one that a snapshot has
pub snapshot_of : {S C : Type 0} (m : MachineSpec S C) → LawfulMachine m → (n t : ℕ) (state : S) → (n ≡ 0 → t ≡ 0) → (m.states newest).Fits state → agrees m n state ≡ true → IsSnapshot m (record { index = n; term = t; state = state })
snapshot_of m law n t state none fits is = let a = agreed m law n state fits is in record { count = a.0; none = none; first = a.1 }

-- ---- what is read has just these bytes, and what has a text is read from it

version_lawful : Lawful (number 1 1 (newest + 1))
version_lawful = number_lawful 1 1 (newest + 1) (omega arith) (omega arith)

-- past both tests, both were true
ended : {A : Type 0} (b a : Bool) (x y : A) (p q : ℕ) → cond b (cond a (Ok x) (Err p)) (Err q) ≡ Ok y → (b ≡ true) × (a ≡ true) × (x ≡ y)
ended true true x y p q e = (refl, refl, cc)
ended true false x y p q e = absurd cc
ended false a x y p q e = absurd cc

pub stable_found : {S C : Type 0} (m : MachineSpec S C) → LawfulMachine m → (bytes : List ℕ) (s : Stored S C) → IsBytes bytes → stable_at m bytes ≡ Ok s → IsStableText m s bytes
unfolding stable_at
stable_found {S} {C} m law bytes s fits e =
    let last : ℕ → Stored S C × ℕ → Result (Stored S C) ℕ = λ (k : ℕ) (s : Stored S C × ℕ). cond (eqb s.1 (length bytes)) (cond (agrees m s.0.log.base.index s.0.log.base.state) (Ok s.0) (Err (state_offset m k bytes s.0.log.base.state))) (Err s.1) in
    let v = bind_ok (number_at 1 1 (newest + 1) bytes 0) (λ v. (stable m v.0).read bytes v.1 >>= last v.0) s e in
    let version = v.0.0 in
    let t = bind_ok ((stable m version).read bytes v.0.1) (last version) s v.2 in
    let stored = t.0.0 in
    let base = stored.log.base in
    let g = ended (eqb t.0.1 (length bytes)) (agrees m base.index base.state) stored s (state_offset m version bytes base.state) t.0.1 t.2 in
    let sv = version_lawful.found bytes 0 version v.0.1 fits v.1 in
    let st = (stable_lawful m version (law.commands_lawful version) (law.states_lawful version)).found bytes v.0.1 stored t.0.1 fits t.1 in
    let text = (stable m version).text stored in
    let known : version ≤ newest = omega (arith, sv.fits.1) in
    let all : t.0.1 ≡ length bytes = eqb-true _ _ g.0 in
    let none : drop t.0.1 bytes ≡ [] = drop_all t.0.1 bytes (omega (arith, all)) in
    let behind : drop v.0.1 bytes ≡ text = st.here ∙ ap (λ (r : List ℕ). text ++ r) none ∙ append-nil text in
    let whole : bytes ≡ stable_text m version stored = sv.here ∙ ap (λ (r : List ℕ). spelled 1 version ++ r) behind in
    let at_base = st.fits.0.0.1.1.0 in
    let snapshot = snapshot_of m law base.index base.term base.state (none_covered base.index base.term at_base.1.1) (law.states_stay version base.state st.fits.0.1) g.1 in
    subst (λ (s : Stored S C). IsStableText m s bytes) g.2 (version, record { known = (sv.fits.0, known); fits = st.fits; snapshot = snapshot }, whole)

-- a version that is there is one that a text begins with
begins_with : (version : ℕ) → (1 ≤ version) × (version ≤ newest) → (number 1 1 (newest + 1)).Fits version
begins_with version known = (known.0, omega (arith, known.1))

pub stable_only : {S C : Type 0} (m : MachineSpec S C) → LawfulMachine m → (version : ℕ) (s : Stored S C) → StableFits m version s → stable_at m (stable_text m version s) ≡ Ok s
unfolding stable_at
stable_only m law version s fits =
    let text = (stable m version).text s in
    let bytes = stable_text m version s in
    let first = version_lawful.only bytes 0 version text (begins_with version fits.known) refl in
    let here = past 0 bytes (spelled 1 version) text refl in
    let second = (stable_lawful m version (law.commands_lawful version) (law.states_lawful version)).only bytes (0 + length (spelled 1 version)) s [] fits.fits (here ∙ sym (append-nil text)) in
    let all : eqb (0 + length (spelled 1 version) + length text) (length bytes) ≡ true = eq-eqb _ _ (omega (arith, length-append (spelled 1 version) text)) in
    let fitting = agreeing m s.log.base.index s.log.base.state fits.snapshot.count fits.snapshot.first in
    rw (first, second, all, fitting) refl

apart_in_one : {S C : Type 0} (m : MachineSpec S C) → LawfulMachine m → (version : ℕ) (s t : Stored S C) (x y : List ℕ) → StableFits m version s → StableFits m version t → stable_text m version s ++ x ≡ stable_text m version t ++ y → s ≡ t
apart_in_one m law version s t x y fs ft e =
    let f = stable m version in
    let front = spelled 1 version in
    let behind = append_cancel_left front (f.text s ++ x) (f.text t ++ y) (sym (append_assoc front (f.text s) x) ∙ e ∙ append_assoc front (f.text t) y) in
    no_text_begins_another f (stable_lawful m version (law.commands_lawful version) (law.states_lawful version)) s t x y fs.fits ft.fits behind

pub stable_apart : {S C : Type 0} (m : MachineSpec S C) → LawfulMachine m → (v w : ℕ) (s t : Stored S C) (x y : List ℕ) → StableFits m v s → StableFits m w t → stable_text m v s ++ x ≡ stable_text m w t ++ y → (v ≡ w) × (s ≡ t)
stable_apart {S} {C} m law v w s t x y fs ft e =
    let one = (stable m v).text s in
    let other = (stable m w).text t in
    let behind : spelled 1 v ++ (one ++ x) ≡ spelled 1 w ++ (other ++ y) = sym (append_assoc (spelled 1 v) one x) ∙ e ∙ append_assoc (spelled 1 w) other y in
    let same : v ≡ w = no_text_begins_another (number 1 1 (newest + 1)) version_lawful v w (one ++ x) (other ++ y) (begins_with v fs.known) (begins_with w ft.known) behind in
    (same, apart_in_one m law w s t x y (subst (λ (k : ℕ). StableFits m k s) same fs) ft (subst (λ (k : ℕ). stable_text m k s ++ x ≡ stable_text m w t ++ y) same e))

pub found_of : {S C : Type 0} (m : MachineSpec S C) → LawfulMachine m → (bytes : List ℕ) (r : Result (Stored S C) Refusal) → IsBytes bytes → Gives r (stable_at m bytes) → IfOk r (λ s. IsStableText m s bytes)
found_of m law bytes (Ok s) fits given = stable_found m law bytes s fits given
found_of m law bytes (Err e) fits given = tt

-- ---- step by step

-- a state that is read whole from a place on is read there, to the end
read_whole : {A : Type 0} (at size all : ℕ) (r : Result (A × ℕ) ℕ) (v : A) → at ≤ all → size ≡ all - at → moved_fault at (r >>= λ a. cond (eqb a.1 size) (Ok a.0) (Err a.1)) ≡ Ok v → moved at r ≡ Ok (v, all)
read_whole at size all (Err d) v le is e = absurd cc
read_whole {A} at size all (Ok x) v le is e = elim (cases_eq x.1 size) [
  | inl same ↦
      let f = rw (eq-eqb _ _ same) at e in
      let to_end : at + x.1 ≡ all = omega (arith, same, is) in
      let is_v : x.0 ≡ v = ok_is x.0 v f in
      rw (to_end, is_v) refl
  | inr other ↦ let f = rw (ne_eqb _ _ other) at e in absurd cc
]

-- a fault
abbrev fault : {A : Type 0} → ℕ → Result A ℕ
fault place = Err place

-- one result has one fault
err_is : {A : Type 0} (a b : ℕ) → fault {A = A} a ≡ fault b → a ≡ b
err_is a b e = cc

-- a fault at a test that reading needs is there
err_in : {A : Type 0} (b : Bool) (d : ℕ) (x : A) (p : ℕ) → cond b (Ok x) (Err d) ≡ Err p → d ≡ p
err_in true d x p e = absurd cc
err_in false d x p e = cc

-- a fault of what is read whole lies within the bytes
pub whole_inside : {A : Type 0} (f : Format A) → Lawful f → (bytes : List ℕ) (p : ℕ) → IsBytes bytes → whole f bytes ≡ Err p → p ≤ length bytes
whole_inside f lf bytes p fits e =
    seq_inside f lf bytes 0 p (λ a. cond (eqb a.1 (length bytes)) (Ok a.0) (Err a.1)) fits (omega arith) e
    (λ a fa within ea. let there = err_in (eqb a.1 (length bytes)) a.1 a.0 p ea in omega arith)

unmoved : {A : Type 0} (at : ℕ) (r : Result A ℕ) (v : A) → moved_fault at r ≡ Ok v → r ≡ Ok v
unmoved at (Ok x) v e = e
unmoved at (Err d) v e = absurd cc

-- a fault there, or a byte left over, is the same from the place on
fault_whole : {A B : Type 0} (at size all : ℕ) (r : Result (A × ℕ) ℕ) (more : A × ℕ → Result B ℕ) (p : ℕ) → at ≤ all → size ≡ all - at → moved_fault at (r >>= λ a. cond (eqb a.1 size) (Ok a.0) (Err a.1)) ≡ Err p
    → (moved at r >>= λ s. cond (eqb s.1 all) (more s) (Err s.1)) ≡ Err p
fault_whole at size all (Err d) more p le is e = ap (λ (k : ℕ). fault k) (err_is (at + d) p e)
fault_whole at size all (Ok x) more p le is e = elim (cases_eq x.1 size) [
  | inl same ↦ let f = rw (eq-eqb _ _ same) at e in absurd cc
  | inr other ↦
      let f = rw (ne_eqb _ _ other) at e in
      let short : at + x.1 ≢ all = λ to_end. other (omega (arith, to_end, is)) in
      rw (ne_eqb _ _ short) (ap (λ (k : ℕ). fault k) (err_is (at + x.1) p f))
]

-- a state that is read behind a front, and what is stored then
abbrev behind : {S C : Type 0} → Front C → S × ℕ → Result ((Front C × S) × ℕ) ℕ
behind f s = Ok ((f, s.0), s.1)

abbrev made : {S C : Type 0} → MachineSpec S C → (Front C × S) × ℕ → Result (Stored S C × ℕ) ℕ
made m p = Ok (stored_of m p.0, p.1)

-- what follows the front of a text is read behind it
steps_after : {S C A : Type 0} (m : MachineSpec S C) (f : Front C) (r : Result (S × ℕ) ℕ) (more : Stored S C × ℕ → Result A ℕ)
    → ((r >>= behind f) >>= made m) >>= more ≡ (r >>= λ s. more (stored_of m (f, s.0), s.1))
steps_after m f (Ok s) more = refl
steps_after m f (Err place) more = refl

-- the first byte and the front are read, and end within the bytes
pub record ReadsFront {S C : Type 0} (m : MachineSpec S C) (bytes : List ℕ) (f : Front C) (at : ℕ) : Type 0 where
  pub version : ℕ × ℕ
  pub version_read : number_at 1 1 (newest + 1) bytes 0 ≡ Ok version
  pub front_read : (front (m.commands version.0)).read bytes version.1 ≡ Ok (f, at)
  pub fits : IsBytes bytes

module _ {S C : Type 0} (m : MachineSpec S C) (law : LawfulMachine m) (bytes : List ℕ) (f : Front C) (at : ℕ) (is : ReadsFront m bytes f at) where
  abbrev version : ℕ
  version = is.version.0

  stands : Stands (front (m.commands version)) bytes is.version.1 f at
  stands = (front_lawful (m.commands version) (law.commands_lawful version)).found bytes is.version.1 f at is.fits is.front_read

  pub within : at ≤ length bytes
  within =
      let sv = version_lawful.found bytes 0 version is.version.1 is.fits is.version_read in
      let text = spelled 1 version in
      let first = ap length sv.here ∙ length-append text (drop is.version.1 bytes) in
      let here = ap length stands.here ∙ length-append ((front (m.commands version)).text f) (drop at bytes) in
      omega (arith, sv.after, stands.after, first, here, length-drop is.version.1 bytes, length-drop at bytes)

  pub none_is_none : f.index ≡ 0 → f.index_term ≡ 0
  none_is_none = none_covered f.index f.index_term stands.fits.1.1.0.1.1

  -- what is read then is the state
  rest : stable_at m bytes ≡ ((placed (m.states version)).read bytes at >>= λ s. cond (eqb s.1 (length bytes)) (cond (agrees m f.index s.0) (Ok (stored_of m (f, s.0))) (Err (state_offset m version bytes s.0))) (Err s.1))
  unfolding stable_at
  rest = rw (is.version_read, is.front_read) (steps_after m f ((placed (m.states version)).read bytes at) (λ (s : Stored S C × ℕ). cond (eqb s.1 (length bytes)) (cond (agrees m s.0.log.base.index s.0.log.base.state) (Ok s.0) (Err (state_offset m version bytes s.0.log.base.state))) (Err s.1)))

  -- a fault in the state, or a byte left over, is the whole's
  pub state_fault : (p : ℕ) → moved_fault at (whole (m.states version) (drop at bytes)) ≡ Err p → stable_at m bytes ≡ Err p
  state_fault p e = rest ∙ fault_whole at (length (drop at bytes)) (length bytes) ((m.states version).read (drop at bytes) 0) (λ (s : S × ℕ). cond (agrees m f.index s.0) (Ok (stored_of m (f, s.0))) (Err (state_offset m version bytes s.0))) p within (length-drop at bytes) e

  pub refused_state : (e : Refusal) → Refuses (Unit {0}) e (moved_fault at (whole (m.states version) (drop at bytes))) → Refuses (Unit {0}) e (stable_at m bytes)
  refused_state refusals.NoMemory given = tt
  refused_state (refusals.Frame p) given = state_fault p given
  refused_state _ given = absurd given

  module _ (state : S) (e : moved_fault at (whole (m.states version) (drop at bytes)) ≡ Ok state) where
    -- the state's text is all that stands there
    found_state : (m.states version).Fits state × (drop at bytes ≡ (m.states version).text state)
    found_state = whole_found (m.states version) (law.states_lawful version) (drop at bytes) state (λ i. rw get_or-drop (is.fits (at + i))) (unmoved at (whole (m.states version) (drop at bytes)) state e)

    tested : stable_at m bytes ≡ cond (agrees m f.index state) (Ok (stored_of m (f, state))) (Err (state_offset m version bytes state))
    tested =
        let read = read_whole at (length (drop at bytes)) (length bytes) ((m.states version).read (drop at bytes) 0) state within (length-drop at bytes) e in
        let all : eqb (length bytes) (length bytes) ≡ true = eq-eqb _ _ refl in
        rest ∙ rw (read, all) refl

    pub agreeing_read : agrees m f.index state ≡ true → stable_at m bytes ≡ Ok (stored_of m (f, state))
    agreeing_read so = tested ∙ rw so refl

    pub disagreeing_read : agrees m f.index state ≡ false → stable_at m bytes ≡ Err at
    disagreeing_read so =
        let here : state_offset m version bytes state ≡ at = omega (arith, within, ap length found_state.1, length-drop at bytes) in
        tested ∙ rw (so, here) refl

    pub snapshot_read : agrees m f.index state ≡ true → IsSnapshot m (record { index = f.index; term = f.index_term; state = state })
    snapshot_read so = snapshot_of m law f.index f.index_term state none_is_none (law.states_stay version state found_state.0) so
