use Rattle.std.proofs.Common.{◌≡◌, ◌++◌, map, filter, drop}
use Rattle.blocked.specs.Rooms.{room_in}
use Rattle.blocked.specs.Inner.Urgencies.{urgency_of, becomes_due_by}
use Rattle.blocked.proofs.due.due_then.Given as goal

abbrev pub invariant-loop-held : goal.invariant-loop-held
invariant-loop-held l =
    l.urgencies ++ map urgency_of (filter (becomes_due_by l.class l.index (room_in l.rooms)) (drop l.held-index l.evals))
    ≡ map urgency_of (filter (becomes_due_by l.class l.index (room_in l.rooms)) l.evals)
