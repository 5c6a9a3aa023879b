use Rattle.plan_apply.proofs.Admitting.{kept_is_admitted}
use Rattle.plan_apply.proofs.laws.what_is_kept_is_admitted.Goals as goal

pub returns : goal.returns
returns g = kept_is_admitted
