use Rattle.std.proofs.Common.{take}
use Rattle.std.specs.List.{AllZip}
use Rattle.sim_inspect.specs.Inner.StateRows.{IsGroupReport}
use Rattle.sim_inspect.proofs.states.groups.Given as goal

abbrev pub invariant-loop-row : goal.invariant-loop-row
invariant-loop-row l = AllZip IsGroupReport (take l.row-index l.row-items) l.reports.items
