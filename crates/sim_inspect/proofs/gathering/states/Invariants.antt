use Rattle.std.proofs.Common.{take}
use Rattle.std.specs.List.{AllZip}
use Rattle.sim_inspect.specs.Inner.Applied.{IsStateAfter}
use Rattle.sim_inspect.proofs.gathering.states.Given as goal

abbrev pub invariant-loop-one : goal.invariant-loop-one
invariant-loop-one l = AllZip (IsStateAfter l.world.servers) (take l.one-index l.one-items) l.reports.items
