use Rattle.sim_expand.specs.Inner.Taking.{Delivers}
use Rattle.sim_expand.proofs.expanding.Taken.deliver.Given as goal

-- so many messages met their fates
abbrev pub invariant-loop : goal.invariant-loop
invariant-loop l = Delivers l.counter l.fn.self l.self
