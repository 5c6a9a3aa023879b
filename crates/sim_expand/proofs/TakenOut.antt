-- Messages that are taken out of flight, one by one.
use Rattle.std.proofs.Common.{◌≡◌, ◌∙◌, ◌<◌, ◌+◌, ◌++◌, ◌∷◌, ℕ, suc, Bool, true, false, List, [], ap, ap₂, append_assoc, arith, drop, drop-cons, if◌then◌else◌, get_or, length, not, sym, take}
use Rattle.std.proofs.lemmas.List.{append-nil, take_more}
use Rattle.std.proofs.lemmas.List.Elements.{filter-append}
use Rattle.sim_expand.specs.Inner.Deliveries.{is_one_of, passed_over, without}

module _ (others : List ℕ) where
  either : (b : Bool) (front own : List ℕ) (x : ℕ) → (if b then (front ++ own) else ((front ++ own) ++ x ∷ [])) ≡ front ++ (own ++ (if not b then (x ∷ []) else []))
  either true front own x = ap (λ s. front ++ s) (sym (append-nil own))
  either false front own x = append_assoc front own (x ∷ [])

  one_over : (front done : List ℕ) (x : ℕ) → passed_over others (x ∷ (front ++ without others done)) ≡ front ++ without others (done ++ x ∷ [])
  one_over front done x =
      either (is_one_of others x) front (without others done) x
      ∙ ap (λ s. front ++ s) (sym (filter-append (λ number. not (is_one_of others number)) done (x ∷ [])))

  pub passed_once : (all : List ℕ) (i : ℕ) → i < length all → passed_over others (drop i all ++ without others (take i all)) ≡ drop (i + 1) all ++ without others (take (i + 1) all)
  passed_once all i inside =
      let next : suc i ≡ i + 1 = omega arith in
      let first = drop-cons all i 0 inside in
      ap (λ s. passed_over others (s ++ without others (take i all))) first
      ∙ one_over (drop (suc i) all) (take i all) (get_or all i 0)
      ∙ ap₂ (λ k s. drop k all ++ without others s) next (sym (take_more all i 0 inside))
