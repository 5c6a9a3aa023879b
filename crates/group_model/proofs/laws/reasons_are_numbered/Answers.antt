use Rattle.group_model.proofs.Reasoned.{same_number}
use Rattle.group_model.proofs.laws.reasons_are_numbered.Goals as goal

pub returns : goal.returns
returns g = same_number
