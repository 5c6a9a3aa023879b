-- What a state has an evaluation as.
use Rattle.std.specs.Prelude.{Bool}
use Rattle.rows.specs.declared.evaluation.EvalId.{EvalId}
use Rattle.rows.specs.declared.evaluation.Evaluation.{Evaluation}
use Rattle.fsm_tables.specs.declared.urgency.Urgency.{Urgency}
use Rattle.fsm_model.specs.Words.{State, eval_of, is_some_and, is_blocked, is_pending}

abbrev pub is_blocked_in : State → EvalId → Bool
is_blocked_in s id = is_some_and (λ (row : Evaluation). is_blocked row.status) (eval_of id s)

abbrev pub is_pending_in : State → EvalId → Bool
is_pending_in s id = is_some_and (λ (row : Evaluation). is_pending row.status) (eval_of id s)

-- the evaluation of this urgency
abbrev pub stands_pending : State → Urgency → Bool
stands_pending s u = is_pending_in s u.id
