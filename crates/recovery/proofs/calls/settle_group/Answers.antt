use Rattle.std.proofs.lemmas.Result.{IfOk-weaker, IfErr-weaker}
use Rattle.recovery.proofs.GroupFollows.{is_group_settled, why_group_unsettled}
use Rattle.recovery.proofs.calls.settle_group.Goals as goal

pub returns-clause-ok : goal.returns-clause-ok
returns-clause-ok c = IfOk-weaker c.settle_driven.result _ _ (λ who h. is_group_settled c.args.world.now c.settle_driven.new.world c.clients-nodes.ensures.nodes who h) c.settle_driven.ensures.ok

pub returns-clause-err : goal.returns-clause-err
returns-clause-err c = IfErr-weaker c.settle_driven.result _ _ (λ why h. why_group_unsettled c.args.world.now c.settle_driven.new.world c.clients-nodes.ensures.nodes why h) c.settle_driven.ensures.err
