use Rattle.std.proofs.Common.{true, false, refl}
use Rattle.std.proofs.lemmas.Result.{on_ok_weaker, IfErr-weaker}
use Rattle.recovery.proofs.Wakings.{known_down, wake_none, wake_one, wake_stops}
use Rattle.recovery.proofs.down_servers.restart_if_down.Goals as goal

pub returns-then-is_up-clause-ok : goal.returns-then-is_up-clause-ok
returns-then-is_up-clause-ok g c = wake_none g.D.Of.Machine.spec g.D.Driven.drive c.has_run.ensures.law g.D.Driven.restarting c.args.world.now c.args.server c.requires c.has_run.ensures.run true c.if-is_up.ensures refl

pub restart-requires : goal.restart-requires
restart-requires g c = known_down g.D.Of.Machine.spec g.D.Driven.drive c.has_run.ensures.law g.D.Driven.restarting c.args.world.now c.args.server c.requires c.has_run.ensures.run false c.if-is_up.ensures refl

pub returns-else-is_up-clause-ok : goal.returns-else-is_up-clause-ok
returns-else-is_up-clause-ok g c = on_ok_weaker c.restart.result (λ h. wake_one g.D.Of.Machine.spec g.D.Driven.drive c.has_run.ensures.law g.D.Driven.restarting c.args.world.now c.args.server c.requires c.has_run.ensures.run false c.if-is_up.ensures c.restart.new.self refl h) c.restart.ensures.ok

pub returns-else-is_up-clause-err : goal.returns-else-is_up-clause-err
returns-else-is_up-clause-err g c = IfErr-weaker c.restart.result _ _ (λ why h. wake_stops g.D.Of.Machine.spec g.D.Driven.drive c.has_run.ensures.law g.D.Driven.restarting c.args.world.now c.args.server c.requires c.has_run.ensures.run false c.if-is_up.ensures c.restart.new.self why refl h) c.restart.ensures.err
