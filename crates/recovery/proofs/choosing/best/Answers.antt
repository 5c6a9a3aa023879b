use Rattle.std.proofs.Common.{subst, arith}
use Rattle.recovery.specs.Inner.Drives.{Ever}
use Rattle.recovery.proofs.Picks.{BestBelow, best_start, best_more, best_all, best_some}
use Rattle.recovery.proofs.choosing.best.Goals as goal

pub loop-position-init : goal.loop-position-init
loop-position-init g c = (tt, best_start g.D.Of.Machine.spec g.D.Driven.drive c.has_run.ensures.law c.args.world.now)

pub better-best-requires-clause-best : goal.better-best-requires-clause-best
better-best-requires-clause-best g c = c.loop-position.invariant.0

pub better-best-requires-clause-next : goal.better-best-requires-clause-next
better-best-requires-clause-next g c = omega (arith, c.server_at.ensures, c.members-position-end.ensures.value)

pub loop-position-preserved : goal.loop-position-preserved
loop-position-preserved g c = (c.better-best.ensures.server, best_more g.D.Of.Machine.spec g.D.Driven.drive c.has_run.ensures.law c.args.world.now c.loop-position.position c.server_at.result c.server_at.ensures (omega (arith, c.server_at.ensures, c.members-position-end.ensures.value)) c.loop-position.best c.better-best.result c.loop-position.invariant.1 c.better-best.ensures.better)

pub returns : goal.returns
returns g c = best_all g.D.Of.Machine.spec g.D.Driven.drive c.has_run.ensures.law c.args.world.now c.in-Some.who c.loop-position.position (omega (arith, c.members-position-end.ensures.value))
    (subst (λ b. Ever g.D.Driven.drive c.args.world.now (λ w. BestBelow (g.D.Driven.drive.size c.args.world.now) b c.loop-position.position w)) c.in-Some.is c.loop-position.invariant.1)

pub unreachable-requires : goal.unreachable-requires
unreachable-requires g c = best_some g.D.Of.Machine.spec g.D.Driven.drive c.has_run.ensures.law c.args.world.now c.loop-position.position (omega (arith, c.members-position-end.ensures.value)) c.requires
    (subst (λ b. Ever g.D.Driven.drive c.args.world.now (λ w. BestBelow (g.D.Driven.drive.size c.args.world.now) b c.loop-position.position w)) c.in-None.is c.loop-position.invariant.1)
