use Rattle.std.proofs.Common.{arith}
use Rattle.recovery.proofs.Wakings.{wakes_start, wakes_within, wakes_more, wakes_stops, wakes_done}
use Rattle.recovery.proofs.down_servers.restart_all.Goals as goal

pub loop-position-init : goal.loop-position-init
loop-position-init g c = wakes_start g.D.Of.Machine.spec g.D.Driven.drive c.has_run.ensures.law g.D.Driven.restarting c.args.world.now c.has_run.ensures.run

pub restart_if_down-requires : goal.restart_if_down-requires
restart_if_down-requires g c = wakes_within g.D.Of.Machine.spec g.D.Driven.drive c.has_run.ensures.law g.D.Driven.restarting c.args.world.now c.loop-position.world c.has_run.ensures.run c.loop-position.position c.loop-position.invariant c.server_at.result c.server_at.ensures (omega (arith, c.members-position-end.ensures.value))

pub loop-position-preserved : goal.loop-position-preserved
loop-position-preserved g c = wakes_more g.D.Of.Machine.spec g.D.Driven.drive c.has_run.ensures.law g.D.Driven.restarting c.args.world.now c.loop-position.world c.has_run.ensures.run c.loop-position.position c.loop-position.invariant c.restart_if_down.new.world c.server_at.result c.server_at.ensures (omega (arith, c.members-position-end.ensures.value)) c.in-Ok.ensures.ok

pub returns-in-Err-clause-err : goal.returns-in-Err-clause-err
returns-in-Err-clause-err g c = wakes_stops g.D.Of.Machine.spec g.D.Driven.drive c.has_run.ensures.law g.D.Driven.restarting c.args.world.now c.loop-position.world c.has_run.ensures.run c.loop-position.position c.loop-position.invariant c.restart_if_down.new.world c.server_at.result c.in-Err.why c.server_at.ensures (omega (arith, c.members-position-end.ensures.value)) c.in-Err.ensures.err

pub returns-clause-ok : goal.returns-clause-ok
returns-clause-ok g c = wakes_done g.D.Of.Machine.spec g.D.Driven.drive c.has_run.ensures.law g.D.Driven.restarting c.args.world.now c.loop-position.world c.has_run.ensures.run c.loop-position.position c.loop-position.invariant (omega (arith, c.members-position-end.ensures.value))
