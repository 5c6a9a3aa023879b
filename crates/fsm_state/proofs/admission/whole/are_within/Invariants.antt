use Rattle.std.proofs.Common.{◌≡◌}
use Rattle.std.specs.List.{list_all}
use Rattle.fsm_tables.specs.Runs.{rows_left}
use Rattle.fsm_state.specs.Inner.Claimed.{bears_node}
use Rattle.fsm_state.proofs.admission.whole.are_within.Given as goal

abbrev pub invariant-loop-node : goal.invariant-loop-node
invariant-loop-node l = list_all (bears_node l.claims) l.nodes ≡ list_all (bears_node l.claims) (rows_left l.node-iterator)
