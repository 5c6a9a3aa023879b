use Rattle.fsm_model.proofs.OldTexts.{old_states_have_none, old_is_safe}
use Rattle.fsm_model.proofs.laws.old_states_stay_safe.Goals as goal

pub returns-clause-without_disk : goal.returns-clause-without_disk
returns-clause-without_disk c = old_states_have_none

pub returns-clause-safe : goal.returns-clause-safe
returns-clause-safe c = old_is_safe
