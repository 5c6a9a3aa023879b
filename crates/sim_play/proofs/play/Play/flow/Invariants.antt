use Rattle.sim_play.specs.Flows.{ManyPassed}
use Rattle.sim_play.proofs.play.Play.flow.Given as goal

abbrev pub invariant-loop : goal.invariant-loop
invariant-loop l = ManyPassed l.counter l.fn.self l.self
