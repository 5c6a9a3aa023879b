-- One server more that stands as it does at its place.
use Rattle.std.proofs.Common.{◌≡◌, ◌∙◌, ◌+◌, ◌<◌, ◌≤◌, ◌++◌, ◌∷◌, ℕ, suc, None, List, [], length, length-append, ap, subst, sym, inl, inr, arith}
use Rattle.std.specs.Prelude.{slice_get, is_some}
use Rattle.std.proofs.lemmas.Bool.{true≢false}
use Rattle.std.proofs.lemmas.Option.{slice_get_cases}
use Rattle.rows.specs.GroupSizes.{IsGroup}
use Rattle.sim_play.specs.declared.play.Play.{Play}
use Rattle.sim_expand.specs.declared.standing.ServerStanding.{ServerStanding}
use Rattle.sim_expand.specs.Inner.GroupStandings.{NoServerAt, StandFrom, StandsAt}

stand_more : (play : Play) (place : ℕ) (servers : List ServerStanding) (s : ServerStanding) → StandFrom play place servers → StandsAt play (place + length servers) s
    → StandFrom play place (servers ++ s ∷ [])
stand_more play place [] s all one = (subst (λ n. StandsAt play n s) (omega arith) one, tt)
stand_more play place (first ∷ servers) s all one = (all.0, stand_more play (suc place) servers s all.1 (subst (λ n. StandsAt play n s) (omega arith) one))

-- a place below the length of a list has something
is_there : {A : Type 0} (xs : List A) (i : ℕ) → i < length xs → slice_get xs i ≡ None → ⊥
is_there xs i lt none = elim (slice_get_cases xs i).1 [
  | inl c ↦ true≢false (ap is_some (sym c.2 ∙ none))
  | inr c ↦ absurd (omega (arith, lt, c.0))
]

below_five : (n place : ℕ) → IsGroup n → place < n → 5 ≤ place → ⊥
below_five n place (inl is) lt five = absurd (omega (arith, is, lt, five))
below_five n place (inr is) lt five = absurd (omega (arith, is, lt, five))

no_gap : (play : Play) (place : ℕ) → IsGroup (length play.world.servers) → place < length play.world.servers → NoServerAt play place → ⊥
no_gap play place group lt (inl five) = below_five (length play.world.servers) place group lt five
no_gap play place group lt (inr none) = is_there play.world.servers place lt none

-- so many stand, and then one more
pub stands_more : (play : Play) (place : ℕ) (old new : List ServerStanding) (s : ServerStanding) → length old ≡ place → StandFrom play 0 old → StandsAt play place s → new ≡ old ++ s ∷ []
    → (length new ≡ place + 1) × StandFrom play 0 new
stands_more play place old new s many all at is =
    let one : length new ≡ length old + 1 = ap length is ∙ length-append old (s ∷ []) in
    let zero_more : place ≡ 0 + length old = omega (arith, many) in
    (omega (arith, one, many), subst (StandFrom play 0) (sym is) (stand_more play 0 old s all (subst (λ n. StandsAt play n s) zero_more at)))

-- no place of a group is left out
pub none_left_out : (play : Play) (place : ℕ) {C : Type 0} → IsGroup (length play.world.servers) → place < length play.world.servers → NoServerAt play place → C
none_left_out play place group lt gap = absurd (no_gap play place group lt gap)
