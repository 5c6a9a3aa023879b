use Rattle.std.proofs.Common.{refl}
use Rattle.std.proofs.lemmas.Result.{IfOk-weaker, IfErr-weaker}
use Rattle.recovery.proofs.LogWakings.{are_settled, why_all_unsettled, why_asleep}
use Rattle.recovery.proofs.restarts.settle_all.Goals as goal

pub returns-then-not-has_room-clause-err : goal.returns-then-not-has_room-clause-err
returns-then-not-has_room-clause-err g c = (c.if-not-has_room.ensures.value, refl)

pub returns-in-Ok-clause-ok : goal.returns-in-Ok-clause-ok
returns-in-Ok-clause-ok g c = IfOk-weaker c.settle.result _ _ (λ who h. are_settled g.M.Machine.spec c.args.world.now c.has_run.ensures.run c.has_run.ensures.group c.if-not-has_room.ensures.value c.restart_all.new.world c.in-Ok.ensures.ok c.settle.new.world who h) c.settle.ensures.ok

pub returns-in-Ok-clause-err : goal.returns-in-Ok-clause-err
returns-in-Ok-clause-err g c = IfErr-weaker c.settle.result _ _ (λ why h. why_all_unsettled g.M.Machine.spec c.args.world.now c.has_run.ensures.run c.has_run.ensures.group c.if-not-has_room.ensures.value c.restart_all.new.world c.in-Ok.ensures.ok c.settle.new.world why h) c.settle.ensures.err

pub returns-in-Err-clause-err : goal.returns-in-Err-clause-err
returns-in-Err-clause-err g c = why_asleep g.M.Machine.spec c.args.world.now c.has_run.ensures.run c.has_run.ensures.group c.if-not-has_room.ensures.value c.restart_all.new.world c.in-Err.why c.in-Err.ensures.err
