use Rattle.std.proofs.Common.{arith}
use Rattle.recovery.proofs.Looks.{up_are_start, up_are_more}
use Rattle.recovery.proofs.Picks.{Roomy, room_told, room_lacks}
use Rattle.recovery.proofs.choosing.has_room.Goals as goal

pub loop-position-init : goal.loop-position-init
loop-position-init g c = up_are_start g.D.Of.Machine.spec g.D.Driven.drive c.has_run.ensures.law c.args.world.now Roomy

pub loop-position-preserved : goal.loop-position-preserved
loop-position-preserved g c = up_are_more g.D.Of.Machine.spec g.D.Driven.drive c.has_run.ensures.law c.args.world.now Roomy c.loop-position.position c.server_at.result c.server_at.ensures c.loop-position.invariant c.if-is_full.ensures

pub returns-then-is_full : goal.returns-then-is_full
returns-then-is_full g c = room_lacks g.D.Of.Machine.spec g.D.Driven.drive c.has_run.ensures.law c.args.world.now c.server_at.result c.if-is_full.ensures

pub returns : goal.returns
returns g c = room_told g.D.Of.Machine.spec g.D.Driven.drive c.has_run.ensures.law c.args.world.now c.loop-position.position (omega (arith, c.members-position-end.ensures.value)) c.loop-position.invariant
