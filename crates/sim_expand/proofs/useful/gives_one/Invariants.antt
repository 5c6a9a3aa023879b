use Rattle.std.proofs.Common.{◌≡◌}
use Rattle.std.specs.List.{list_any}
use Rattle.fsm_tables.specs.Runs.{rows_left}
use Rattle.sim_expand.specs.Inner.Uses.{goes_first}
use Rattle.sim_expand.proofs.useful.gives_one.Given as goal

-- none of those before goes first
abbrev pub invariant-loop-row : goal.invariant-loop-row
invariant-loop-row l =
    list_any (goes_first l.broker.tasks l.busy.items) (rows_left l.row-iterator) ≡ list_any (goes_first l.broker.tasks l.busy.items) l.state.evals
