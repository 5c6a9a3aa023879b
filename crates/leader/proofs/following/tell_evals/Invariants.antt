use Rattle.std.proofs.Common.{◌≡◌, drop}
use Rattle.blocked.specs.Rooms.{blocked_of}
use Rattle.leader.specs.Inner.Changes.{broker_after, blocked_after}
use Rattle.leader.proofs.following.tell_evals.Given as goal

abbrev pub invariant-loop-row : goal.invariant-loop-row
invariant-loop-row l =
    (broker_after (drop l.row-index l.rows) l.broker ≡ broker_after l.rows l.fn.broker)
    × (blocked_after l.state (drop l.row-index l.rows) (blocked_of l.blocked) ≡ blocked_after l.state l.rows (blocked_of l.fn.blocked))
