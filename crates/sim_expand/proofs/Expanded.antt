-- Steps that a group takes, one behind the other.
use Rattle.std.proofs.Common.{◌≡◌, ◌∙◌, ◌<◌, ◌≤◌, ◌+◌, ◌++◌, ◌∷◌, ◌||◌, ℕ, suc, Bool, true, false, List, [], ap, arith, drop, drop-cons, get_or, inl, inr, length, map, refl, subst, sym, take}
use Rattle.std.specs.List.{All}
use Rattle.std.proofs.lemmas.List.{get_or-map, length-map, length-take, map-append, take-append-drop, take_more}
use Rattle.std.proofs.Math.Bool.{or-false, or_assoc}
use Rattle.std.proofs.Math.Nat.{min-le_left}
use Rattle.std.proofs.lemmas.List.Folds.{list_any-append}
use Rattle.rows.specs.declared.node.NodeSpec.{NodeSpec}
use Rattle.rows.specs.declared.refusal.Refusal.{Refusal}
use Rattle.sim_scenario.specs.declared.scenario.Settings.{Settings}
use Rattle.world.specs.GroupSteps.{WhyNoGroup}
use Rattle.sim_expand.specs.declared.expanding.Taken.{Taken}
use Rattle.sim_expand.specs.declared.short.ShortStep.{ShortStep}
use Rattle.sim_expand.specs.Counts.{AreMost, IsMost, most_elected}
use Rattle.sim_expand.specs.Expanded.{LinesAt}
use Rattle.sim_expand.specs.Inner.Taking.{WhyNoShort}
use Rattle.sim_expand.specs.ShortSteps.{AsItStands, Settles, Elects, Short, has_elect, is_elect, short_step}
use Rattle.sim_expand.specs.Stops.{IsGoodShort, WhyNotExpanded}
use Rattle.sim_expand.proofs.Flows.{same_most}

-- no step comes to more lines than it may
pub lines_within : (settings : Settings) (nodes : List NodeSpec) (behind : Bool) (before : List (List ℕ)) (step : Short) (own : List (List ℕ)) (most : ℕ) → LinesAt settings nodes behind before step own → IsMost behind step most
    → length own ≤ most
lines_within settings nodes false before (AsItStands line) own most is may = let one : length own ≡ 1 = ap length is in omega (arith, one, may)
lines_within settings nodes true before (AsItStands line) own most (inl is) may = omega (arith, is.2, same_most true (AsItStands line) is.0 most (inl is.1) may)
lines_within settings nodes true before (AsItStands line) own most (inr is) may =
    let one : length own ≡ 1 = ap length is.1 in
    omega (arith, one, same_most true (AsItStands line) 1 most (inr (is.0, refl)) may)
lines_within settings nodes behind before (Settles count) own most few may = omega (arith, few.0, may)
lines_within settings nodes behind before Elects own most are may =
    let few : length own ≡ length (take most_elected are.lines) = ap length are.first in
    let cut = length-take most_elected are.lines in
    let least = min-le_left most_elected (length are.lines) in
    omega (arith, few, cut, least, may)

-- what the first steps come to, and the next
pub most_of_next : (behind : Bool) (front : List Short) (step : Short) (rest : List Short) (most : ℕ) → AreMost behind (front ++ step ∷ rest) most
    → (first : ℕ) × (own : ℕ) × AreMost behind front first × IsMost (behind || has_elect front) step own × (first + own ≤ most)
most_of_next behind [] step rest most are = (0, are.0, refl, subst (λ b. IsMost b step are.0) (sym (or-false behind)) are.3, omega (arith, are.2))
most_of_next behind (other ∷ front) step rest most are =
    let next = most_of_next (behind || is_elect other) front step rest are.1 are.4 in (
      are.0 + next.0,
      next.1,
      (are.0, next.0, refl, are.3, next.2),
      subst (λ b. IsMost b step next.1) (or_assoc behind (is_elect other) (has_elect front)) next.3,
      omega (arith, are.2, next.4),
    )

-- there is no such group
pub no_group : (settings : Settings) (nodes : List NodeSpec) (steps : List Short) (r : Refusal) → WhyNoGroup settings.servers nodes r → WhyNotExpanded settings nodes steps r
no_group settings nodes steps r (inl memory) = inl memory
no_group settings nodes steps r (inr none) = inr (none.0, λ can. none.1 can.group.0 can.group.1)

module _ (steps : List ShortStep) (i : ℕ) (step : ShortStep) (inside : i < length steps) (at : step ≡ get_or steps i step) where
  -- the steps, the next one by itself
  parted : map short_step steps ≡ map short_step (take i steps) ++ short_step step ∷ map short_step (drop (suc i) steps)
  parted =
      let whole : steps ≡ take i steps ++ step ∷ drop (suc i) steps = sym (take-append-drop i steps) ∙ ap (λ s. take i steps ++ s) (drop-cons steps i step inside ∙ ap (λ x. x ∷ drop (suc i) steps) (sym at)) in
      ap (map short_step) whole ∙ map-append short_step (take i steps) (step ∷ drop (suc i) steps)

  -- a `settle elect` is among the first ones with the next
  pub elect_with_next : has_elect (map short_step (take (i + 1) steps)) ≡ (has_elect (map short_step (take i steps)) || is_elect (short_step step))
  elect_with_next =
      let taken : take (i + 1) steps ≡ take i steps ++ step ∷ [] = take_more steps i step inside ∙ ap (λ x. take i steps ++ x ∷ []) (sym at) in
      ap (λ s. has_elect (map short_step s)) taken
      ∙ ap has_elect (map-append short_step (take i steps) (step ∷ []))
      ∙ list_any-append is_elect (map short_step (take i steps)) (short_step step ∷ [])
      ∙ ap (λ b. has_elect (map short_step (take i steps)) || b) (or-false (is_elect (short_step step)))

  -- so many lines the first ones come to at most with the next
  pub most_with_next : (most : ℕ) → AreMost false (map short_step (take (i + 1) steps)) most
      → (first : ℕ) × (own : ℕ) × AreMost false (map short_step (take i steps)) first × IsMost (has_elect (map short_step (take i steps))) (short_step step) own × (first + own ≤ most)
  most_with_next most are =
      let taken : take (i + 1) steps ≡ take i steps ++ step ∷ [] = take_more steps i step inside ∙ ap (λ x. take i steps ++ x ∷ []) (sym at) in
      let split = ap (map short_step) taken ∙ map-append short_step (take i steps) (step ∷ []) in
      most_of_next false (map short_step (take i steps)) (short_step step) [] most (subst (λ s. AreMost false s most) split are)

  good_step : All IsGoodShort (map short_step steps) → IsGoodShort (short_step step)
  good_step good = subst IsGoodShort (get_or-map short_step steps i step (short_step step) inside ∙ ap short_step (sym at)) (good i (short_step step) (omega (arith, length-map steps short_step)))

  -- the next step is not taken
  pub no_step : (settings : Settings) (nodes : List NodeSpec) (t : Taken) (r : Refusal) → t.behind ≡ has_elect (map short_step (take i steps))
      → ((most : ℕ) → AreMost false (map short_step (take i steps)) most → length t.lines.items ≤ most) → WhyNoShort (short_step step) t r
      → WhyNotExpanded settings nodes (map short_step steps) r
  no_step settings nodes t r behind few (inl memory) = inl memory
  no_step settings nodes t r behind few (inr (out, inl bad)) = inr (out, λ can. bad (good_step can.good))
  no_step settings nodes t r behind few (inr (out, inr past)) = inr (
    out,
    λ can.
        let all = can.few in
        let split = most_of_next false (map short_step (take i steps)) (short_step step) (map short_step (drop (suc i) steps)) all.0 (subst (λ s. AreMost false s all.0) parted all.1) in
        let over = past split.1 (subst (λ b. IsMost b (short_step step) split.1) (sym behind) split.3) in
        absurd (omega (arith, few split.0 split.2, over, split.4, all.2)),
  )
