-- What is so of each actor of a program.
use Rattle.std.specs.Prelude.{◌<◌, ◌≤◌}
use Rattle.rows.specs.declared.actor.Actor.{Actor}
use Rattle.rows.specs.declared.actor.Actor.TheVariants.{Server, Client}

-- there are 5 servers, by their places, and 64 clients, by their numbers
abbrev pub IsActor : Actor → Type 0
IsActor (Server place) = place < 5
IsActor (Client number) = (1 ≤ number) × (number ≤ 64)
