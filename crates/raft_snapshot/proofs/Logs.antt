-- Logs whose first entries are replaced by others of the same number and last term.
use Rattle.std.proofs.Common.{◌≡◌, ℕ, zero, suc, ◌+◌, ◌-◌, ◌<◌, ◌≤◌, ◌||◌, nat_le, nat_lt, Bool, true, false, cond, List, [], ◌∷◌, ◌++◌, length, take, drop, refl, sym, ap, ◌∙◌, inl, inr, arith, length-append, length-take, length-take-le, append_assoc}
use Rattle.std.proofs.Math.Seq.{drop-append_seam, drop-length, take-append-add}
use Rattle.std.proofs.lemmas.Slice.{drop-append-drop}
use Rattle.std.proofs.lemmas.Bool.{le-ltb}
use Rattle.std.proofs.lemmas.Bool.Decides.{leb_tells}
use Rattle.std.proofs.lemmas.List.{drop-append-le, take-append-drop, drop-take, length-drop, append-nil}
use Rattle.machine_model.specs.declared.entry.Entry.{Entry}
use Rattle.raft_model.specs.Logs.{term_at, last_term, has, merge, install}
use Rattle.raft_model.specs.Rafts.{greatest}
use Rattle.raft_snapshot.specs.Prefixes.{log_with_prefix}

pub term_at_zero : {C : Type 0} (log : List (Entry C)) → term_at log 0 ≡ 0
unfolding term_at
term_at_zero [] = refl
term_at_zero (e ∷ log) = refl

pub term_front : {C : Type 0} (P X : List (Entry C)) (p : ℕ) → p ≤ length P → term_at (P ++ X) p ≡ term_at P p
unfolding term_at
term_front [] X zero le = term_at_zero X
term_front [] X (suc p) le = absurd (omega arith)
term_front (e ∷ P) X zero le = refl
term_front (e ∷ P) X (suc zero) le = refl
term_front (e ∷ P) X (suc (suc p)) le = term_front P X (suc p) (omega arith)

pub term_behind : {C : Type 0} (P X : List (Entry C)) (p q : ℕ) → p ≡ length P + suc q → term_at (P ++ X) p ≡ term_at X (suc q)
unfolding term_at
term_behind [] X p q e = let i : p ≡ suc q = omega arith in ap (term_at X) i
term_behind (e ∷ P) X zero q is = absurd (omega arith)
term_behind (e ∷ P) X (suc zero) q is = absurd (omega arith)
term_behind (e ∷ P) X (suc (suc p)) q is = term_behind P X (suc p) q (omega arith)

-- the first entries of a log have their terms
pub front_term : {C : Type 0} (L : List (Entry C)) (k p : ℕ) → k ≤ length L → p ≤ k → term_at (take k L) p ≡ term_at L p
front_term {C = C} L k p within le =
    sym (ap (λ (l : List (Entry C)). term_at l p) (sym (take-append-drop k L)) ∙ term_front (take k L) (drop k L) p (omega (arith, le, length-take-le k L within)))

-- what comes behind comes behind the filled in log too
pub later : {C : Type 0} (P L more : List (Entry C)) → length P ≤ length L → log_with_prefix P L ++ more ≡ log_with_prefix P (L ++ more)
later {C = C} P L more within = append_assoc P (drop (length P) L) more ∙ ap (λ (l : List (Entry C)). P ++ l) (sym (drop-append-le (length P) L more within))

module _ {C : Type 0} (P L : List (Entry C)) (within : length P ≤ length L) (same : last_term P ≡ term_at L (length P)) where
  pub with_prefix-length : length (log_with_prefix P L) ≡ length L
  with_prefix-length = omega (arith, length-append P (drop (length P) L), length-drop (length P) L)

  pub with_prefix-term : (p : ℕ) → length P ≤ p → term_at (log_with_prefix P L) p ≡ term_at L p
  with_prefix-term p le = elim (leb_tells p (length P)) [
    | inl t ↦
        let e : p ≡ length P = omega (arith, t.1) in
        rw e (term_front P (drop (length P) L) (length P) (omega arith) ∙ same)
    | inr t ↦
        let q = p - length P - 1 in
        let here : p ≡ length P + suc q = omega (arith, t.1) in
        let size : length (take (length P) L) ≡ length P = length-take-le (length P) L within in
        let there : p ≡ length (take (length P) L) + suc q = omega (arith, size, here) in
        term_behind P (drop (length P) L) p q here
        ∙ sym (ap (λ (l : List (Entry C)). term_at l p) (sym (take-append-drop (length P) L)) ∙ term_behind (take (length P) L) (drop (length P) L) p q there)
  ]

  pub with_prefix-last_term : last_term (log_with_prefix P L) ≡ last_term L
  with_prefix-last_term = ap (term_at (log_with_prefix P L)) with_prefix-length ∙ with_prefix-term (length L) within

  pub with_prefix-has : (p term : ℕ) → length P ≤ p → has (log_with_prefix P L) p term ≡ has L p term
  with_prefix-has p term le = rw (with_prefix-length, with_prefix-term p le) refl

  pub with_prefix-grown : (more : List (Entry C)) → log_with_prefix P L ++ more ≡ log_with_prefix P (L ++ more)
  with_prefix-grown more = later P L more within

  pub with_prefix-drop : (k : ℕ) → length P ≤ k → drop k (log_with_prefix P L) ≡ drop k L
  with_prefix-drop k le = drop-append-drop (length P) L P k le refl

  pub with_prefix-take : (k : ℕ) → length P ≤ k → take k (log_with_prefix P L) ≡ log_with_prefix P (take k L)
  with_prefix-take k le =
      let n = k - length P in
      let e : k ≡ length P + n = omega arith in
      ap (λ (i : ℕ). take i (log_with_prefix P L)) e ∙ take-append-add P (drop (length P) L) n
      ∙ ap (λ (l : List (Entry C)). P ++ l) (sym (drop-take (length P) n L) ∙ ap (λ (i : ℕ). drop (length P) (take i L)) (sym e))

  merge_step : (c p : ℕ) (e : Entry C) (es : List (Entry C)) (t : Bool) → length P ≤ p → merge c (suc p) (log_with_prefix P L) es ≡ log_with_prefix P (merge c (suc p) L es) → cond t (merge c (suc p) (log_with_prefix P L) es) (take p (log_with_prefix P L) ++ e ∷ es) ≡ log_with_prefix P (cond t (merge c (suc p) L es) (take p L ++ e ∷ es))
  merge_step c p e es true le rest = rest
  merge_step c p e es false le rest =
      ap (λ (l : List (Entry C)). l ++ e ∷ es) (with_prefix-take p le) ∙ later P (take p L) (e ∷ es) (omega (arith, length-take p L))

  pub with_prefix-merge : (c p : ℕ) (es : List (Entry C)) → length P ≤ c → merge c p (log_with_prefix P L) es ≡ log_with_prefix P (merge c p L es)
  unfolding merge
  with_prefix-merge c p [] le = refl
  with_prefix-merge c p (e ∷ es) le = elim (leb_tells (suc p) c) [
    | inl t ↦ rw t.0 (with_prefix-merge c (suc p) es le)
    | inr t ↦ rw (with_prefix-has (suc p) e.term (omega (arith, t.1))) (merge_step c p e es (nat_le (suc p) c || has L (suc p) e.term) (omega (arith, t.1)) (with_prefix-merge c (suc p) es le))
  ]

  install_step : (Q B : List (Entry C)) (t : Bool) → length B ≡ length Q → length P ≤ length Q → cond t (Q ++ drop (length Q) (log_with_prefix P L)) Q ≡ log_with_prefix Q (cond t (B ++ drop (length B) L) B)
  install_step Q B true each le = ap (λ (l : List (Entry C)). Q ++ l) (with_prefix-drop (length Q) le ∙ ap (λ (i : ℕ). drop i L) (sym each) ∙ sym (ap (λ (i : ℕ). drop i (B ++ drop (length B) L)) (sym each) ∙ drop-append_seam B (drop (length B) L)))
  install_step Q B false each le = sym (append-nil Q) ∙ ap (λ (l : List (Entry C)). Q ++ l) (sym (ap (λ (i : ℕ). drop i B) (sym each) ∙ drop-length B))

  -- a snapshot of Q, in place of one that shows as B
  pub with_prefix-install : (Q B : List (Entry C)) → length B ≡ length Q → last_term B ≡ last_term Q → length P ≤ length Q → install (log_with_prefix P L) Q ≡ log_with_prefix Q (install L B)
  unfolding install
  with_prefix-install Q B each term le =
      let t : has L (length B) (last_term B) ≡ has L (length Q) (last_term Q) = rw (term, each) refl in
      rw (with_prefix-has (length Q) (last_term Q) le, t) (install_step Q B (has L (length Q) (last_term Q)) each le)

pub greatest-same : (f g : ℕ → Bool) (low high : ℕ) → ((k : ℕ) → low < k → f k ≡ g k) → greatest f low high ≡ greatest g low high
unfolding greatest
greatest-same f g low zero same = refl
greatest-same f g low (suc high) same = elim (leb_tells (suc high) low) [
  | inl t ↦ let b : nat_lt low (suc high) ≡ false = le-ltb low (suc high) t.1 in rw b (greatest-same f g low high same)
  | inr t ↦ rw (same (suc high) t.1, greatest-same f g low high same) refl
]
