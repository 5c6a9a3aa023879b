-- What became of a list of events, each at its own place in the trace.
use Rattle.std.proofs.Common.{◌≡◌, ℕ, List, [], ◌∷◌, ◌++◌, refl}
use Rattle.raft_model.specs.Worlds.{Outcome}
use Rattle.world.specs.Steps.{next_position, EachBecame}

-- where the next event stands behind these
abbrev pub place_after : ℕ → List Outcome → ℕ
place_after place [] = place
place_after place (o ∷ os) = place_after (next_position place o) os

pub place_more : (place : ℕ) (os : List Outcome) (o : Outcome) → place_after place (os ++ o ∷ []) ≡ next_position (place_after place os) o
place_more place [] o = refl
place_more place (x ∷ os) o = place_more (next_position place x) os o

module _ {E : Type 0} (R : ℕ → E → Outcome → Type 0) where
  pub became_more : (place : ℕ) (es : List E) (os : List Outcome) (e : E) (o : Outcome) → EachBecame R place es os → R (place_after place os) e o → EachBecame R place (es ++ e ∷ []) (os ++ o ∷ [])
  became_more place [] [] e o all r = (r, tt)
  became_more place [] (x ∷ os) e o all r = absurd all
  became_more place (y ∷ es) [] e o all r = absurd all
  became_more place (y ∷ es) (x ∷ os) e o all r = (all.0, became_more (next_position place x) es os e o all.1 r)

pub became_map : {E : Type 0} (R S : ℕ → E → Outcome → Type 0) → ((place : ℕ) (e : E) (o : Outcome) → R place e o → S place e o) → (place : ℕ) (es : List E) (os : List Outcome) → EachBecame R place es os → EachBecame S place es os
became_map R S f place [] [] all = tt
became_map R S f place [] (x ∷ os) all = absurd all
became_map R S f place (y ∷ es) [] all = absurd all
became_map R S f place (y ∷ es) (x ∷ os) all = (f place y x all.0, became_map R S f (next_position place x) es os all.1)
