use Rattle.std.proofs.Common.{subst}
use Rattle.std.proofs.lemmas.Result.{IfOk-weaker}
use Rattle.sim_expand.specs.Checked.{IsGoodShortText}
use Rattle.runner.proofs.checks.check_short_bytes.Goals as goal

pub returns-in-Ok-clause-ok : goal.returns-in-Ok-clause-ok
returns-in-Ok-clause-ok g c =
    IfOk-weaker c.check_short_text.result _ _ (λ status ok. (ok.0, subst IsGoodShortText c.in-Ok.ensures.cases.0 ok.1)) c.check_short_text.ensures.ok
