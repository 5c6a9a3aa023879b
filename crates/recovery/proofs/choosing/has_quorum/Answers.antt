use Rattle.std.proofs.Common.{◌≡◌, subst, arith}
use Rattle.recovery.specs.Inner.Drives.{Ever}
use Rattle.recovery.proofs.Picks.{CountIs, count_start, count_one, count_none_here, quorum_match}
use Rattle.recovery.proofs.choosing.has_quorum.Goals.{then-is_up, else-is_up}
use Rattle.recovery.proofs.choosing.has_quorum.Goals as goal

pub loop-position-init : goal.loop-position-init
loop-position-init g c = (count_start g.D.Of.Machine.spec g.D.Driven.drive c.has_run.ensures.law c.args.world.now, omega arith)

pub loop-position-preserved : goal.loop-position-preserved
loop-position-preserved g c = elim c.if-is_up.branch [
  | then-is_up w ↦ rw w.up-is (
    count_one g.D.Of.Machine.spec g.D.Driven.drive c.has_run.ensures.law c.args.world.now c.loop-position.up c.loop-position.position c.server_at.result c.is_up.result c.server_at.ensures c.loop-position.invariant.0 c.is_up.ensures w.if-is_up.true,
    omega (arith, c.loop-position.invariant.1),
  )
  | else-is_up w ↦ rw w.up-is (
    count_none_here g.D.Of.Machine.spec g.D.Driven.drive c.has_run.ensures.law c.args.world.now c.loop-position.up c.loop-position.position c.server_at.result c.is_up.result c.server_at.ensures c.loop-position.invariant.0 c.is_up.ensures w.if-is_up.false,
    omega (arith, c.loop-position.invariant.1),
  )
]

pub returns : goal.returns
returns g c =
    let same : c.loop-position.position ≡ c.members-all.result = omega arith in
    quorum_match g.D.Of.Machine.spec g.D.Driven.drive c.has_run.ensures.law c.args.world.now c.members-all.result c.loop-position.up c.members-all.ensures.value
    (subst (λ q. Ever g.D.Driven.drive c.args.world.now (λ w. CountIs c.loop-position.up q w)) same c.loop-position.invariant.0)
