use Rattle.std.proofs.Common.{arith}
use Rattle.recovery.proofs.Looks.{highest_start, highest_more, highest_all}
use Rattle.recovery.proofs.reading.highest.Goals as goal

pub loop-position-init : goal.loop-position-init
loop-position-init g c = let k = c.requires in highest_start g.D.Of.Machine.spec g.D.Driven.drive c.has_run.ensures.law c.args.world.now c.args.who k.ever

pub higher-top-requires : goal.higher-top-requires
higher-top-requires g c =
    let k = c.requires in
    let a = c.loop-position.invariant k.past k.moment k.runs in
    (a.less, omega (arith, c.server_at.ensures, c.members-position-end.ensures.value))

pub loop-position-preserved : goal.loop-position-preserved
loop-position-preserved g c = highest_more g.D.Of.Machine.spec g.D.Driven.drive c.has_run.ensures.law c.args.world.now c.loop-position.top c.loop-position.position c.server_at.result c.higher-top.result c.server_at.ensures (omega (arith, c.server_at.ensures, c.members-position-end.ensures.value)) c.loop-position.invariant c.higher-top.ensures

pub returns : goal.returns
returns g c = highest_all g.D.Of.Machine.spec g.D.Driven.drive c.has_run.ensures.law c.args.world.now c.loop-position.top c.loop-position.position (omega (arith, c.members-position-end.ensures.value)) c.loop-position.invariant
