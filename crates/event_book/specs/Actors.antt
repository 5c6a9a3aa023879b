-- Lists of actors.
use Rattle.std.specs.Prelude.{◌==◌, ◌&&◌, not, Bool, true, false, List, [], ◌∷◌}
use Rattle.std.specs.List.{list_any}
use Rattle.rows.specs.declared.actor.Actor.{Actor}
use Rattle.rows.specs.declared.actor.Actor.TheVariants.{Server, Client}

abbrev pub same_actor : Actor → Actor → Bool
same_actor (Server m) (Server n) = m == n
same_actor (Server m) (Client n) = false
same_actor (Client m) (Server n) = false
same_actor (Client m) (Client n) = m == n

-- whether the actor is one of these
abbrev pub lists_actor : List Actor → Actor → Bool
lists_actor actors actor = list_any (λ named. same_actor named actor) actors

-- no actor stands twice
abbrev pub are_apart : List Actor → Bool
are_apart [] = true
are_apart (actor ∷ actors) = not (lists_actor actors actor) && are_apart actors
