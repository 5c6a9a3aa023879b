use Rattle.std.proofs.Common.{refl}
use Rattle.std.proofs.lemmas.Result.{IfOk-weaker, IfErr-weaker}
use Rattle.recovery.proofs.GroupWakings.{are_group_settled, why_group_all_unsettled, why_group_asleep}
use Rattle.recovery.proofs.restarts.settle_all_of_group.Goals as goal

pub returns-then-not-has_room-clause-err : goal.returns-then-not-has_room-clause-err
returns-then-not-has_room-clause-err c = (c.if-not-has_room.ensures.value, refl)

pub returns-in-Ok-clause-ok : goal.returns-in-Ok-clause-ok
returns-in-Ok-clause-ok c = IfOk-weaker c.settle_group.result _ _ (λ who h. are_group_settled c.args.world.now c.has_run.ensures.run c.clients-nodes.ensures.nodes c.has_run.ensures.group c.if-not-has_room.ensures.value c.restart_all.new.world c.in-Ok.ensures.ok c.settle_group.new.world who h) c.settle_group.ensures.ok

pub returns-in-Ok-clause-err : goal.returns-in-Ok-clause-err
returns-in-Ok-clause-err c = IfErr-weaker c.settle_group.result _ _ (λ why h. why_group_all_unsettled c.args.world.now c.has_run.ensures.run c.clients-nodes.ensures.nodes c.has_run.ensures.group c.if-not-has_room.ensures.value c.restart_all.new.world c.in-Ok.ensures.ok c.settle_group.new.world why h) c.settle_group.ensures.err

pub returns-in-Err-clause-err : goal.returns-in-Err-clause-err
returns-in-Err-clause-err c = why_group_asleep c.args.world.now c.has_run.ensures.run c.clients-nodes.ensures.nodes c.has_run.ensures.group c.if-not-has_room.ensures.value c.restart_all.new.world c.in-Err.why c.in-Err.ensures.err
