use Rattle.std.proofs.Common.{◌≡◌, ◌<◌, ℕ, true}
use Rattle.rows.specs.declared.actor.Actor.TheVariants.{Server}
use Rattle.event_book.specs.Seats.{lists_actor}
use Rattle.cells.proofs.opening.has_servers.Given as goal

abbrev pub invariant-loop-position : goal.invariant-loop-position
invariant-loop-position l = (i : ℕ) → i < l.position → lists_actor l.fn.all (Server i) ≡ true
