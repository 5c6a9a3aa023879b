use Rattle.std.proofs.Common.{take}
use Rattle.std.specs.List.{AllZip}
use Rattle.sim_inspect.specs.Inner.Clients.{IsClientReport}
use Rattle.sim_inspect.proofs.gathering.clients.Given as goal

abbrev pub invariant-loop-client : goal.invariant-loop-client
invariant-loop-client l = AllZip IsClientReport (take l.client-index l.client-items) l.reports.items
