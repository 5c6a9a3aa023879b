-- Which evaluation goes next: two of job a (priority 50) and two of job b (70).
use Rattle.std.specs.Prelude.{◌≡◌, ℕ, Option, Some, None, Err, List, [], ◌∷◌}
use Rattle.rows.specs.declared.refusal.Refusal.TheVariants as refusals
use Rattle.rows.specs.declared.evaluation.EvalId.{EvalId}
use Rattle.rows.specs.declared.evaluation.Evaluation.{Evaluation}
use Rattle.rows.specs.declared.evaluation.EvalStatus.TheVariants as eval_statuses
use Rattle.fsm_model.specs.Worked.Words.{eval_id}
use Rattle.group_model.specs.Brokers.{Broker, no_tasks, broker_over, broker_with, Given, Nothing, UsedUp, Gives, deliver, after_gift, outstanding, with_ack, with_nack}
use Rattle.group_model.specs.Worked.Words.{token, a, b}

abbrev pub eval_row : ℕ → List ℕ → ℕ → Evaluation
eval_row index job priority = record { id = eval_id index 0; job = job; priority = priority; status = eval_statuses.Pending; snapshot = 0 }

abbrev pub broker : Broker
broker = broker_over (eval_row 2 a 50 ∷ eval_row 3 b 70 ∷ eval_row 4 b 70 ∷ eval_row 5 a 50 ∷ []) no_tasks

abbrev pub gift : Given → Option (EvalId × ℕ)
gift Nothing = None
gift UsedUp = None
gift (Gives what new) = Some (what.eval, what.token.serial)

abbrev pub one_out : Broker
one_out = after_gift broker (deliver 1 5 broker)

abbrev pub two_out : Broker
two_out = after_gift one_out (deliver 1 5 one_out)

abbrev pub again : Broker
again = after_gift (with_nack (eval_id 3 0) two_out) (deliver 1 5 (with_nack (eval_id 3 0) two_out))

-- higher priority first; and one evaluation of a job at a time
abbrev pub HigherFirst : Type 0
HigherFirst = gift (deliver 1 5 broker) ≡ Some (eval_id 3 0, 1)

abbrev pub OtherJobNext : Type 0
OtherJobNext = gift (deliver 1 5 one_out) ≡ Some (eval_id 2 0, 2)

abbrev pub BothOut : Type 0
BothOut = gift (deliver 1 5 two_out) ≡ None

abbrev pub AfterNack : Type 0
AfterNack = gift (deliver 1 5 (with_nack (eval_id 3 0) two_out)) ≡ Some (eval_id 3 0, 3)

abbrev pub OldToken : Type 0
OldToken = outstanding (eval_id 3 0) (token 1 1) again ≡ Err refusals.TokenDiffers

-- an acknowledged evaluation's job waits until the row changes
abbrev pub AckWaits : Type 0
AckWaits = gift (deliver 1 5 (with_ack (eval_id 2 0) again)) ≡ None

abbrev pub complete : Evaluation → Evaluation
complete e = record e { status = eval_statuses.Complete }

-- once its row is complete, the other one of its job goes
abbrev pub changed : Broker
changed = broker_with (complete (eval_row 2 a 50)) (with_ack (eval_id 2 0) again)

abbrev pub AfterChange : Type 0
AfterChange = gift (deliver 1 6 changed) ≡ Some (eval_id 5 0, 4)

-- the same by all rows
abbrev pub ChangedByAll : Type 0
ChangedByAll = broker_over (complete (eval_row 2 a 50) ∷ eval_row 3 b 70 ∷ eval_row 4 b 70 ∷ eval_row 5 a 50 ∷ []) (with_ack (eval_id 2 0) again) ≡ changed

abbrev pub AckOnce : Type 0
AckOnce = outstanding (eval_id 2 0) (token 1 2) (with_ack (eval_id 2 0) again) ≡ Err refusals.NotOutstanding
