use Rattle.std.proofs.Common.{◌≡◌, ◌++◌, map}
use Rattle.fsm_tables.specs.Claims.{claims}
use Rattle.fsm_tables.specs.Runs.{rows_left}
use Rattle.sim_metrics.specs.Verdicts.{verdict}
use Rattle.sim_metrics.proofs.metrics.verdicts.Given as goal

abbrev pub invariant-loop-node : goal.invariant-loop-node
invariant-loop-node l =
    let of = verdict (claims l.state.allocs) l.group in
    l.verdicts.items ++ map of (rows_left l.node-iterator) ≡ map of l.state.nodes
