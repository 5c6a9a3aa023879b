use Rattle.std.proofs.Common.{◌≡◌, ◌+◌, ◌-◌}
use Rattle.fsm_state.specs.Inner.Alone.{has_room, all_from, all_numbers}
use Rattle.fsm_state.proofs.cluster.Cluster.have_room.Given as goal

abbrev pub invariant-loop-before : goal.invariant-loop-before
invariant-loop-before l = all_numbers (has_room l.self l.ended l.wanted) ≡ all_from (has_room l.self l.ended l.wanted) (l.before + 1) (64 - l.before)
