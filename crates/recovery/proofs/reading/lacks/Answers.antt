use Rattle.std.proofs.Common.{◌≡◌, ◌≤◌, ◌∙◌, true}
use Rattle.raft_model.specs.Rafts.{is_up}
use Rattle.recovery.proofs.Looks.{lacks_told, lacks_down, none_each}
use Rattle.recovery.proofs.reading.lacks.Goals as goal

pub returns-in-Some-applied : goal.returns-in-Some-applied
returns-in-Some-applied g c = lacks_told g.D.Of.Machine.spec g.D.Driven.drive c.args.world.now c.args.server c.in-Some.raft.now c.in-Some.ensures.some c.args.last c.get.result (λ s r. let z = c.in-Some-applied.ensures.value s r in (z.0, c.get.ensures.value ∙ z.1))

pub returns-in-None-applied : goal.returns-in-None-applied
returns-in-None-applied g c = lacks_down g.D.Of.Machine.spec g.D.Driven.drive c.args.world.now c.args.server c.in-Some.raft.now c.in-Some.ensures.some c.args.last (λ s r. c.in-None-applied.ensures.value s r)

pub returns-in-None : goal.returns-in-None
returns-in-None g c = none_each g.D.Of.Machine.spec g.D.Driven.drive c.args.world.now c.args.server (λ s. is_up s.mode ≡ true → c.args.last ≤ s.commit) c.in-None.ensures.none
