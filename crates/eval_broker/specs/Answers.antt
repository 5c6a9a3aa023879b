-- What a broker answers: outstanding pairs, refusals, and those given out too often, in order.
use Rattle.std.specs.Prelude.{◌≡◌, ℕ, Bool, true, false, Option, Some, None, Err, is_ok, List, map}
use Rattle.rows.specs.declared.evaluation.EvalId.{EvalId}
use Rattle.rows.specs.declared.token.Token.{Token}
use Rattle.rows.specs.declared.refusal.Refusal.{Refusal}
use Rattle.rows.specs.declared.refusal.Refusal.TheVariants as refusals
use Rattle.fsm_tables.specs.declared.urgency.Urgency.{Urgency}
use Rattle.fsm_tables.specs.Urgencies.{urgency}
use Rattle.group_model.specs.Order.{in_order}
use Rattle.group_model.specs.Brokers.{Mark, Free, Out, Acked, Task, Broker, outstanding, failed}
use Rattle.eval_broker.specs.declared.answers.PairError.{PairError}
use Rattle.eval_broker.specs.declared.answers.PairError.TheVariants as errors

-- under which token and for a state of which index an evaluation is out
abbrev pub pair_of_mark : Mark → Option (Token × ℕ)
pair_of_mark Free = None
pair_of_mark (Out token wait) = Some (token, wait)
pair_of_mark Acked = None

abbrev pub pair_of : Option Task → Option (Token × ℕ)
pair_of None = None
pair_of (Some t) = pair_of_mark t.mark

-- whether an evaluation's work is done, and its row is to change
abbrev pub is_acked : Mark → Bool
is_acked Acked = true
is_acked _ = false

abbrev pub is_task_acked : Option Task → Bool
is_task_acked None = false
is_task_acked (Some t) = is_acked t.mark

-- the refusal that an answer stands for
abbrev pub refusal_of : PairError → Refusal
refusal_of errors.NotOutstanding = refusals.NotOutstanding
refusal_of errors.TokenDiffers = refusals.TokenDiffers

-- whether an evaluation is out under this token, and why the pair is none
abbrev pub IsPair : EvalId → Token → Broker → Type 0
IsPair eval token b = is_ok (outstanding eval token b) ≡ true

abbrev pub RefusesPair : EvalId → Token → Broker → PairError → Type 0
RefusesPair eval token b e = outstanding eval token b ≡ Err (refusal_of e)

-- where a task stands in the order of tasks
abbrev pub urgency_of : Task → Urgency
urgency_of t = urgency t.priority t.id

-- those given out as often as may be, the higher priority first, and of one priority the lower id
abbrev pub failed_in_order : Broker → List Urgency
failed_in_order b = map urgency_of (in_order (λ (t : Task). t.priority) (failed b))
