use Rattle.fsm_model.proofs.RangeLaws.{empty_is_state}
use Rattle.fsm_model.proofs.laws.empty_is_lawful.Goals as goal

pub returns-clause-state : goal.returns-clause-state
returns-clause-state c = empty_is_state
