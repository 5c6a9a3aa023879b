use Rattle.std.proofs.Common.{◌≤◌, arith}
use Rattle.recovery.proofs.Looks.{up_are_start, up_are_more, all_applied}
use Rattle.recovery.proofs.reading.is_applied.Goals as goal

pub loop-position-init : goal.loop-position-init
loop-position-init g c = up_are_start g.D.Of.Machine.spec g.D.Driven.drive c.has_run.ensures.law c.args.world.now (λ s. c.last_of-last.result ≤ s.commit)

pub loop-position-preserved : goal.loop-position-preserved
loop-position-preserved g c = up_are_more g.D.Of.Machine.spec g.D.Driven.drive c.has_run.ensures.law c.args.world.now (λ s. c.last_of-last.result ≤ s.commit) c.loop-position.position c.server_at.result c.server_at.ensures c.loop-position.invariant c.if-lacks.ensures

pub returns : goal.returns
returns g c = λ yes. all_applied g.D.Of.Machine.spec g.D.Driven.drive c.has_run.ensures.law c.args.world.now c.last_of-last.result c.loop-position.position c.args.who (omega (arith, c.members-position-end.ensures.value)) c.last_of-last.ensures.value c.loop-position.invariant
