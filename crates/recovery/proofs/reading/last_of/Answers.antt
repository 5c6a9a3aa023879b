use Rattle.std.proofs.Common.{◌≡◌, ◌∙◌, length}
use Rattle.recovery.proofs.Looks.{read_each, none_each}
use Rattle.recovery.proofs.reading.last_of.Goals as goal

pub returns-in-Some-clause-value : goal.returns-in-Some-clause-value
returns-in-Some-clause-value g c = read_each g.D.Of.Machine.spec g.D.Driven.drive c.args.world.now c.args.server c.in-Some.raft.now (λ s. c.get.result ≡ length s.log) c.in-Some.ensures.some (λ s r. c.get.ensures.value ∙ c.last.ensures.value s r)

pub returns-in-None-clause-value : goal.returns-in-None-clause-value
returns-in-None-clause-value g c = none_each g.D.Of.Machine.spec g.D.Driven.drive c.args.world.now c.args.server (λ s. 0 ≡ length s.log) c.in-None.ensures.none
