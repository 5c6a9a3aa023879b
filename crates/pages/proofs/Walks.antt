-- A walk over runs.
use Rattle.std.proofs.Common.{◌≡◌, ℕ, zero, suc, ◌+◌, ◌<◌, ◌≤◌, List, [], ◌∷◌, ◌++◌, length, take, drop, refl, sym, ap, subst, ◌∙◌, arith, append_assoc, append-nil, length-append}
use Rattle.std.proofs.lemmas.List.{take-append-drop}
use Rattle.std.proofs.lemmas.Bool.{cases_lt}
use Rattle.std.proofs.Common.{inl, inr}
use Rattle.pages.specs.Runs.{IsRun}
use Rattle.pages.proofs.Here.{run_fits, take-nil}

module _ {X : Type 0} where
  drop-nil : (n : ℕ) → drop {A = X} n [] ≡ []
  drop-nil zero = refl
  drop-nil (suc n) = refl

  drop_drop : (position n : ℕ) (ys : List X) → drop n (drop position ys) ≡ drop (position + n) ys
  drop_drop zero n ys = ap (λ (m : ℕ). drop m ys) (here n)
    where
      here : (n : ℕ) → n ≡ 0 + n
      here n = omega arith
  drop_drop (suc position) n [] = drop-nil n ∙ sym (drop-nil (suc position + n))
  drop_drop (suc position) n (y ∷ ys) = drop_drop position n ys ∙ ap (λ (m : ℕ). drop m (y ∷ ys)) (there position n)
    where
      there : (position n : ℕ) → suc (position + n) ≡ suc position + n
      there position n = omega arith

  pub run_and_rest : (ys run : List X) (position : ℕ) → IsRun ys position run → run ++ drop (position + length run) ys ≡ drop position ys
  run_and_rest ys run position h =
      ap (λ zs. zs ++ drop (position + length run) ys) h.0 ∙ ap (λ zs. take (length run) (drop position ys) ++ zs) (sym (drop_drop position (length run) ys)) ∙ take-append-drop (length run) (drop position ys)

  past : (ys : List X) (position : ℕ) → length ys ≤ position → drop position ys ≡ []
  past [] position le = drop-nil position
  past (y ∷ ys) zero le = absurd (omega arith)
  past (y ∷ ys) (suc position) le = past ys position (omega arith)

  length-drop-le : (position : ℕ) (ys : List X) → position < length ys → length (drop position ys) + position ≡ length ys
  length-drop-le zero ys lt = omega arith
  length-drop-le (suc position) [] lt = absurd (omega arith)
  length-drop-le (suc position) (y ∷ ys) lt = let h = length-drop-le position ys (omega arith) in omega (arith, h)

  pub run_end : (ys run : List X) (position m : ℕ) → IsRun ys position run → length ys < m → position < m → position + length run < m
  run_end ys run position m h a b = elim (cases_lt position (length ys)) [
    | inl lt ↦ let f = run_fits (length run) run (drop position ys) h.0 in let d = length-drop-le position ys lt in omega (arith, f, d, a)
    | inr le ↦ let z : length run ≡ 0 = ap length (h.0 ∙ ap (take (length run)) (past ys position le) ∙ take-nil (length run)) in omega (arith, z, b)
  ]

  empty_length : (run : List X) → run ≡ [] → length run ≡ 0
  empty_length run e = ap length e

  pub none_after : (ys run : List X) (position : ℕ) → IsRun ys position run → run ≡ [] → run ++ drop (position + length run) ys ≡ []
  none_after ys run position h e = run_and_rest ys run position h ∙ elim (cases_lt position (length ys)) as (λ z. drop position ys ≡ []) [
    | inl lt ↦ let some = h.1 lt in let z = empty_length run e in absurd (omega (arith, some, z))
    | inr le ↦ past ys position le
  ]

  pub empty_of : (xs : List X) → length xs ≡ 0 → xs ≡ []
  empty_of [] e = refl
  empty_of (x ∷ xs) e = absurd (omega arith)

  pub filled_left : (old ys run : List X) (position : ℕ) → length old ≡ 0 → IsRun ys position run → run ++ drop (position + length run) ys ≡ old ++ drop position ys
  filled_left old ys run position z h = run_and_rest ys run position h ∙ ap (λ zs. zs ++ drop position ys) (sym (empty_of old z))

  -- a list and what it has not of a table make the table once more with a run at its end
  pub copied_more : (ys copies more run : List X) → copies ++ drop (length copies) ys ≡ ys → IsRun ys (length copies) run → more ≡ copies ++ run → more ++ drop (length more) ys ≡ ys
  copied_more ys copies more run e h m =
      subst (λ (zs : List X). zs ++ drop (length zs) ys ≡ ys) (sym m)
      (append_assoc copies run (drop (length (copies ++ run)) ys)
      ∙ ap (λ (n : ℕ). copies ++ (run ++ drop n ys)) (length-append copies run)
      ∙ ap (λ zs. copies ++ zs) (run_and_rest ys run (length copies) h) ∙ e)

  pub copied_all : (ys copies : List X) → copies ++ drop (length copies) ys ≡ ys → length ys ≤ length copies → copies ≡ ys
  copied_all ys copies e le = sym (append-nil copies) ∙ ap (λ zs. copies ++ zs) (sym (past ys (length copies) le)) ∙ e

  -- one item of a list that is taken apart goes to the end of those that were taken
  pub one_more : (all taken rest more : List X) (x : X) → taken ++ rest ≡ all → rest ≡ x ∷ more → (taken ++ x ∷ []) ++ more ≡ all
  one_more all taken rest more x e s = append_assoc taken (x ∷ []) more ∙ ap (λ zs. taken ++ zs) (sym s) ∙ e

  pub all_taken : (all taken rest : List X) (n : ℕ) → taken ++ rest ≡ all → n ≡ length rest → n ≡ 0 → taken ≡ all
  all_taken all taken rest n e l z = sym (append-nil taken) ∙ ap (λ zs. taken ++ zs) (sym (empty_of rest (sym l ∙ z))) ∙ e
