use Rattle.std.proofs.Common.{◌≡◌, ◌++◌, map}
use Rattle.fsm_tables.specs.Claims.{claims}
use Rattle.fsm_tables.specs.Runs.{rows_left}
use Rattle.scheduler.specs.Inner.Loads.{load_of}
use Rattle.scheduler.proofs.load.loads_of.Given as goal

abbrev pub invariant-loop-node : goal.invariant-loop-node
invariant-loop-node l =
    let of = load_of (claims l.state.allocs) in
    l.loads.items ++ map of (rows_left l.node-iterator) ≡ map of l.state.nodes
