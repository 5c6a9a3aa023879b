-- Calls of a broker, one after another, beside the evaluations of the applied state.
use Rattle.std.specs.Prelude.{◌≡◌, ℕ, List, [], ◌∷◌, map, T}
use Rattle.rows.specs.declared.evaluation.EvalId.{EvalId}
use Rattle.rows.specs.declared.evaluation.Evaluation.{Evaluation}
use Rattle.rows.specs.Keys.{eval_cmp, eval_id}
use Rattle.rows.specs.Rising.{is_rising}
use Rattle.fsm_tables.specs.Rows.{put}
use Rattle.group_model.specs.Brokers.{Broker, no_tasks, task_key, broker_over, broker_with, deliver, with_ack, with_nack, HoldsPending}
use Rattle.group_model.specs.Brokers.{after_gift}

-- a call, and what it is of; a row is told once it was made or replaced in the applied state
pub data Call : Type 0 where
  Changed : (row : Evaluation) → Call
  Next : (term wait : ℕ) → Call
  Ack : (id : EvalId) → Call
  Nack : (id : EvalId) → Call

-- the applied state's evaluations, and the broker beside them
pub record Followed : Type 0 where
  pub evals : List Evaluation
  pub broker : Broker

-- after a call that is not refused
abbrev pub after_call : Call → Followed → Followed
after_call (Changed row) f = record { evals = put eval_cmp eval_id row f.evals; broker = broker_with row f.broker }
after_call (Next term wait) f = record f { broker = after_gift f.broker (deliver term wait f.broker) }
after_call (Ack id) f = record f { broker = with_ack id f.broker }
after_call (Nack id) f = record f { broker = with_nack id f.broker }

abbrev pub after_calls : List Call → Followed → Followed
after_calls [] f = f
after_calls (c ∷ cs) f = after_calls cs (after_call c f)

-- a broker made anew over a state's evaluations
abbrev pub rebuilt : List Evaluation → Followed
rebuilt evals = record { evals = evals; broker = broker_over evals no_tasks }

-- the tasks are the pending evaluations of the state beside them, and so those of a broker made
-- anew over it, but for their deliveries and marks
pub record Holds (f : Followed) : Type 0 where
  pub pending : HoldsPending f.evals f.broker.tasks
  pub as_rebuilt : map task_key f.broker.tasks ≡ map task_key (rebuilt f.evals).broker.tasks

-- after every list of calls, from a broker made anew over a state on
abbrev pub HoldsAfterCalls : Type 0
HoldsAfterCalls = (calls : List Call) (evals : List Evaluation) → T (is_rising eval_cmp eval_id evals) → Holds (after_calls calls (rebuilt evals))
