use Rattle.std.proofs.Common.{inr}
use Rattle.std.proofs.lemmas.Result.{IfOk-weaker}
use Rattle.runner.proofs.program.run.Goals as goal

pub returns-in-Ok-clause-told : goal.returns-in-Ok-clause-told
returns-in-Ok-clause-told g c =
    IfOk-weaker c.obey.result _ _ (λ status tells. inr (c.in-Ok.line, c.in-Ok.ensures.named, tells)) c.obey.ensures.told
