use Rattle.std.proofs.Common.{◌≡◌, ◌++◌, length}
use Rattle.std.specs.Vec.Iter.{into_iter_items, into_iter_len}
use Rattle.group_inputs.specs.Events.{group_events}
use Rattle.cluster.specs.Inner.Runs.{IsReplayed}
use Rattle.cluster.proofs.replaying.replay.Given as goal

abbrev pub invariant-loop-event : goal.invariant-loop-event
invariant-loop-event l =
    (l.yielded ++ into_iter_items l.event-iterator ≡ l.fn.events.items)
    × (into_iter_len l.event-iterator ≡ length (into_iter_items l.event-iterator))
    × IsReplayed l.n l.nodes (group_events l.fn.events.items) (group_events l.yielded) (group_events (into_iter_items l.event-iterator)) l.world
