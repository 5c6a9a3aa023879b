use Rattle.fsm_model.proofs.SafeFacts.{safe_by_test, test_by_safe}
use Rattle.fsm_model.proofs.laws.safety_is_decided.Goals as goal

pub returns-clause-safe : goal.returns-clause-safe
returns-clause-safe c = safe_by_test

pub returns-clause-test : goal.returns-clause-test
returns-clause-test c = test_by_safe
