use Rattle.std.proofs.Common.{◌≡◌, ◌∙◌}
use Rattle.recovery.proofs.Looks.{read_each, none_each}
use Rattle.recovery.proofs.reading.term_of.Goals as goal

pub returns-in-Some : goal.returns-in-Some
returns-in-Some g c = read_each g.D.Of.Machine.spec g.D.Driven.drive c.args.world.now c.args.server c.in-Some.raft.now (λ s. c.get.result ≡ s.term) c.in-Some.ensures.some (λ s r. c.get.ensures.value ∙ c.term.ensures.value s r)

pub returns-in-None : goal.returns-in-None
returns-in-None g c = none_each g.D.Of.Machine.spec g.D.Driven.drive c.args.world.now c.args.server (λ s. 0 ≡ s.term) c.in-None.ensures.none
