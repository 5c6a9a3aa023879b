-- An actor that was found at a place of a list.
use Rattle.std.proofs.Common.{◌≡◌, ℕ, zero, suc, ◌<◌, List, [], ◌∷◌, length, Bool, true, false, refl}
use Rattle.std.specs.Prelude.{◌||◌, Some, slice_get}
use Rattle.std.proofs.lemmas.Option.{slice_get_within}
use Rattle.rows.specs.declared.actor.Actor.{Actor}
use Rattle.event_book.specs.Actors.{lists_actor, same_actor}
use Rattle.event_book.proofs.Actors.{is_same, or_later}

pub found_within : (actors : List Actor) (place : ℕ) (a : Actor) → slice_get actors place ≡ Some a → place < length actors
found_within actors place a at = slice_get_within actors place a at

or_here : (b c : Bool) → b ≡ true → (b || c) ≡ true
or_here true c h = refl
or_here false c h = cc

pub found_listed : (actors : List Actor) (place : ℕ) (a : Actor) → slice_get actors place ≡ Some a → lists_actor actors a ≡ true
found_listed [] place a at = cc
found_listed (x ∷ xs) zero a at = or_here (same_actor x a) (lists_actor xs a) (is_same x a cc)
found_listed (x ∷ xs) (suc place) a at = or_later (same_actor x a) (lists_actor xs a) (found_listed xs place a at)
