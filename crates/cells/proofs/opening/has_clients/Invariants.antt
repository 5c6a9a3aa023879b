use Rattle.std.proofs.Common.{◌≡◌, ◌<◌, ℕ, suc, true}
use Rattle.rows.specs.declared.actor.Actor.TheVariants.{Client}
use Rattle.event_book.specs.Seats.{lists_actor}
use Rattle.cells.proofs.opening.has_clients.Given as goal

abbrev pub invariant-loop-place : goal.invariant-loop-place
invariant-loop-place l = (k : ℕ) → k < l.place → lists_actor l.fn.all (Client (suc k)) ≡ true
