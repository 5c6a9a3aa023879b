use Rattle.fsm_model.proofs.SafeLaws.{keeps_safe}
use Rattle.fsm_model.proofs.StateLaws.{applied_are_tables, refusal_is_its_own}
use Rattle.fsm_model.proofs.RangeLaws.{applied_is_state}
use Rattle.fsm_model.proofs.laws.commands_are_lawful.Goals as goal

pub returns-clause-safe : goal.returns-clause-safe
returns-clause-safe c = keeps_safe

pub returns-clause-tables : goal.returns-clause-tables
returns-clause-tables c = applied_are_tables

pub returns-clause-own : goal.returns-clause-own
returns-clause-own c = refusal_is_its_own

pub returns-clause-state : goal.returns-clause-state
returns-clause-state c = applied_is_state
