use Rattle.std.proofs.Common.{take}
use Rattle.client_agent.specs.Inner.Ids.{AreRunning}
use Rattle.client_agent.proofs.running.ids_of.Given as goal

abbrev pub invariant-loop-one : goal.invariant-loop-one
invariant-loop-one l = AreRunning (take l.one-index l.running) l.ids
