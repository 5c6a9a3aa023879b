use Rattle.std.proofs.lemmas.Result.{IfOk-weaker, IfErr-weaker}
use Rattle.recovery.proofs.LogDriving.{is_settled, why_unsettled}
use Rattle.recovery.proofs.calls.settle.Goals as goal

pub returns-clause-ok : goal.returns-clause-ok
returns-clause-ok g c = IfOk-weaker c.settle_driven.result _ _ (λ who h. is_settled g.M.Machine.spec c.args.world.now c.settle_driven.new.world who h) c.settle_driven.ensures.ok

pub returns-clause-err : goal.returns-clause-err
returns-clause-err g c = IfErr-weaker c.settle_driven.result _ _ (λ why h. why_unsettled g.M.Machine.spec c.args.world.now c.settle_driven.new.world why h) c.settle_driven.ensures.err
