-- Rows by their keys.
use Rattle.std.proofs.Common.{◌≡◌, ◌∙◌, ◌+◌, ◌<◌, ◌≤◌, ◌⊎◌, ◌++◌, ◌∷◌, ◌%◌, ◌^◌, ℕ, zero, suc, List, [], Option, Some, None, Result, Ok, Err, HoldsAt, MatchOption, ap, arith, inl, inr, length, map, append_assoc, option_copied, refl, replicate, set, slice_get, subst, sym}
use denote.Ref.{Bor}
use Rattle.std.specs.Prelude.{IfErr, IfOk, MatchResult}
use Rattle.std.specs.List.{All, AllZip, Contains}
use Rattle.std.proofs.Math.Nat.{mod-add-mod}
use Rattle.std.proofs.lemmas.List.{append-nil}
use Rattle.std.proofs.lemmas.List.Elements.{All-cons, All-contains, All-nil}
use Rattle.std.proofs.lemmas.List.FromFn.{map-range_with_len_more}
use Rattle.std.proofs.lemmas.Option.{same_Some, slice_get-get_or}
use Rattle.std.proofs.lemmas.Slice.Zip.{all_zipped_more}
use Rattle.sim_scenario.specs.declared.scenario.Scenario.{Scenario}
use Rattle.sim_scenario.specs.declared.scenario.Settings.{Settings}
use Rattle.sim_sweep.specs.declared.row.Row.{Row}
use Rattle.sim_sweep.specs.Inner.Found.{AreFound}
use Rattle.sim_sweep.specs.Rows.{IsRow, key_at, keys_from}

-- ---- one key more

one_more_key : (first n : ℕ) → keys_from first (n + 1) ≡ keys_from first n ++ key_at first n ∷ []
one_more_key first n = map-range_with_len_more (key_at first) 0 n n (omega arith)

-- ---- keys behind others

-- counted from the one behind the first n
key_behind : (first n k : ℕ) → key_at (key_at first n) k ≡ key_at first (n + k)
key_behind first n k =
    let same : (first + n) + k ≡ first + (n + k) = omega arith in
    mod-add-mod (first + n) (2 ^ 64) k ∙ ap (λ x. x % 2 ^ 64) same

keys_behind : (first n m : ℕ) → keys_from first (n + m) ≡ keys_from first n ++ keys_from (key_at first n) m
keys_behind first n zero =
    let none : n + 0 ≡ n = omega arith in
    ap (keys_from first) none ∙ sym (append-nil (keys_from first n))
keys_behind first n (suc m) =
    let others = keys_from (key_at first n) m in
    let count : n + suc m ≡ (n + m) + 1 = omega arith in
    let more : m + 1 ≡ suc m = omega arith in
    ap (keys_from first) count ∙ one_more_key first (n + m)
    ∙ ap (λ xs. xs ++ key_at first (n + m) ∷ []) (keys_behind first n m)
    ∙ append_assoc (keys_from first n) others (key_at first (n + m) ∷ [])
    ∙ ap (λ k. keys_from first n ++ (others ++ k ∷ [])) (sym (key_behind first n m))
    ∙ ap (λ xs. keys_from first n ++ xs) (sym (one_more_key (key_at first n) m))
    ∙ ap (λ k. keys_from first n ++ keys_from (key_at first n) k) more

zipped_behind : {N T : Type 0} (R : N → T → Type 0) (ns ms : List N) (xs ys : List T) → AllZip R ns xs → AllZip R ms ys → AllZip R (ns ++ ms) (xs ++ ys)
zipped_behind R [] ms [] ys zip more = more
zipped_behind R [] ms (x ∷ xs) ys zip more = absurd zip
zipped_behind R (n ∷ ns) ms [] ys zip more = absurd zip
zipped_behind R (n ∷ ns) ms (x ∷ xs) ys zip more = (zip.0, zipped_behind R ns ms xs ys zip.1 more)

module _ (s : Scenario) (settings : Settings) (first : ℕ) where
  -- the rows of the first n keys, and those of the next m
  pub rows_behind : (n m : ℕ) (rows others : List Row) → AllZip (IsRow s settings) (keys_from first n) rows → AllZip (IsRow s settings) (keys_from (key_at first n) m) others
      → AllZip (IsRow s settings) (keys_from first (n + m)) (rows ++ others)
  rows_behind n m rows others are more =
      rw (keys_behind first n m) (zipped_behind (IsRow s settings) (keys_from first n) (keys_from (key_at first n) m) rows others are more)

  pub one_more_row : (n : ℕ) (rows : List Row) (row : Row) → AllZip (IsRow s settings) (keys_from first n) rows → IsRow s settings (key_at first n) row
      → AllZip (IsRow s settings) (keys_from first (n + 1)) (rows ++ row ∷ [])
  one_more_row n rows row are is =
      rw (one_more_key first n) (all_zipped_more (IsRow s settings) (keys_from first n) rows (key_at first n) row are is)

  -- ---- rows at their places

  none_there : (n position : ℕ) (row : Row) → slice_get (replicate n None) position ≡ Some (Some row) → ⊥
  none_there zero position row at = cc
  none_there (suc n) zero row at = cc
  none_there (suc n) (suc position) row at = none_there n position row at

  pub none_found : (n : ℕ) → AreFound s settings first (replicate n None)
  none_found n position row at = absurd (none_there n position row at)

  set_cases : (xs : List (Option Row)) (i k : ℕ) (y z : Option Row) → slice_get (set xs i y) k ≡ Some z → ((k ≡ i) × (y ≡ z)) ⊎ (slice_get xs k ≡ Some z)
  set_cases [] i k y z at = inr at
  set_cases (x ∷ xs) zero zero y z at = inl (refl, same_Some y z at)
  set_cases (x ∷ xs) zero (suc k) y z at = inr at
  set_cases (x ∷ xs) (suc i) zero y z at = inr at
  set_cases (x ∷ xs) (suc i) (suc k) y z at = elim (set_cases xs i k y z at) [
    | inl same ↦ inl (ap suc same.0, same.1)
    | inr before ↦ inr before
  ]

  pub one_more_found : (found : List (Option Row)) (position : ℕ) (row : Row) → AreFound s settings first found → IsRow s settings (key_at first position) row
      → AreFound s settings first (set found position (Some row))
  one_more_found found position row was is k other at = elim (set_cases found position k (Some row) (Some other) at) [
    | inl same ↦
        let own : IsRow s settings (key_at first position) other = subst (IsRow s settings (key_at first position)) (same_Some row other same.1) is in
        subst (λ n. IsRow s settings (key_at first n) other) (sym same.0) own
    | inr before ↦ was k other before
  ]

-- ---- what is read at a position

pub read_at : {X : Type 0} (xs : List X) (i : ℕ) (got : Option (Bor X)) (x : X) → MatchOption got (length xs ≤ i) (λ b. (i < length xs) × HoldsAt (λ y. b.now ≡ y) xs i)
    → option_copied got ≡ Some x
    → slice_get xs i ≡ Some x
read_at xs i None x at is = cc
read_at xs i (Some b) x at is = slice_get-get_or xs i x at.0 ∙ ap Some (sym (at.1 x)) ∙ is

-- ---- what each worker brings

-- of each that is Ok, P is known
all_in_oks : {T E : Type 0} (P : T → Type 0) (Q : E → Type 0) (ys : List T) → All (λ (r : Result T E). MatchResult r P Q) (map Ok ys) → All P ys
all_in_oks P Q [] all = All-nil P
all_in_oks P Q (y ∷ ys) all = All-cons P y ys (all 0 (Ok y) (omega arith)) (all_in_oks P Q ys (λ k d lt. all (suc k) d (omega arith)))

pub all_zipped : {N T : Type 0} (P : T → Type 0) (R : N → T → Type 0) → ((n : N) (x : T) → R n x → P x) → (ns : List N) (xs : List T) → AllZip R ns xs → All P xs
all_zipped P R each [] [] zip = All-nil P
all_zipped P R each [] (x ∷ xs) zip = absurd zip
all_zipped P R each (n ∷ ns) [] zip = absurd zip
all_zipped P R each (n ∷ ns) (x ∷ xs) zip = All-cons P x xs (each n x zip.0) (all_zipped P R each ns xs zip.1)

-- what is gathered of these, of each of which P is known where it is Ok, and Q where it is not
pub all_gathered : {T E C : Type 0} (P : T → Type 0) (Q : E → Type 0) (items : C → List T) (xs : List (Result T E)) (r : Result C E)
    → All (λ x. MatchResult x P Q) xs
    → MatchResult r (λ c. (ys : List T) × (xs ≡ map Ok ys) × (items c ≡ ys)) (λ e. Contains xs (Err e))
    → MatchResult r (λ c. All P (items c)) Q
all_gathered {T} {E} P Q items xs (Ok c) all is =
    rw is.2 (all_in_oks P Q is.0 (subst (All (λ (x : Result T E). MatchResult x P Q)) is.1 all))
all_gathered {T} {E} P Q items xs (Err e) all is = All-contains (λ (x : Result T E). MatchResult x P Q) xs (Err e) all is

pub ok_of_match : {T E : Type 0} (P : T → Type 0) (Q : E → Type 0) (r : Result T E) → MatchResult r P Q → IfOk r P
ok_of_match P Q (Ok x) is = is
ok_of_match P Q (Err e) is = tt

pub err_of_match : {T E : Type 0} (P : T → Type 0) (Q : E → Type 0) (r : Result T E) → MatchResult r P Q → IfErr r Q
err_of_match P Q (Ok x) is = tt
err_of_match P Q (Err e) is = is
