-- What a server does with what another server's workers ask of its desk. What it refuses goes back.
use Rattle.std.specs.Prelude.{ℕ, Option, Some, None, Result, Ok, Err, [], ◌∷◌, length}
use Rattle.rows.specs.declared.evaluation.EvalId.{EvalId}
use Rattle.rows.specs.declared.token.Token.{Token}
use Rattle.rows.specs.declared.plan.Plan.{Plan}
use Rattle.rows.specs.declared.command.Command.{Command}
use Rattle.rows.specs.declared.command.Command.TheVariants as commands
use Rattle.rows.specs.declared.refusal.Refusal.{Refusal}
use Rattle.rows.specs.declared.refusal.Refusal.TheVariants as refusals
use Rattle.rows.specs.declared.worker.EvalOutcome.{EvalOutcome}
use Rattle.rows.specs.declared.worker.WorkerRequest.{WorkerRequest}
use Rattle.rows.specs.declared.worker.WorkerRequest.TheVariants.{Take, Submit, Finish, Nack}
use Rattle.rows.specs.declared.worker.AskedRequest.{AskedRequest}
use Rattle.rows.specs.declared.worker.AskedRequest.TheVariants as asked
use Rattle.rows.specs.declared.worker.WorkerResponse.{WorkerResponse}
use Rattle.rows.specs.declared.worker.WorkerResponse.TheVariants.{Delivered, Refused}
use Rattle.rows.specs.Reasons.{reason_of}
use Rattle.rows.specs.Changes.{change_of}
use Rattle.raft_model.specs.Rafts.{Raft}
use Rattle.raft_model.specs.Steps.{admission_refusal}
use Rattle.fsm_model.specs.ClusterMachine.{cluster_spec}
use Rattle.group_model.specs.Messages.{BetweenServers, WorkerMessage, Asks, Answers}
use Rattle.group_model.specs.Brokers.{Given, Nothing, UsedUp, Gives, deliver, outstanding, with_ack, with_nack}
use Rattle.group_model.specs.Desks.{Desk, applied_state}
use Rattle.group_model.specs.Inputs.{Act, AskPropose, rests, sends}
use Rattle.group_model.specs.Plans.{submitted}

-- one response to the server that asked
abbrev pub responds : ℕ → ℕ → WorkerResponse → Option Desk → Act
responds me from response d = sends (BetweenServers me from (Answers response) ∷ []) d

-- a refusal goes back, and the desk is as it was
abbrev pub refuses : ℕ → ℕ → AskedRequest → Option Desk → Refusal → Act
refuses me from asked d r = responds me from (Refused asked (reason_of r)) d

-- Take: the evaluation that goes next, or none.
abbrev pub takes_given : ℕ → ℕ → Desk → Given → Act
takes_given me from d Nothing = responds me from (Delivered None) (Some d)
takes_given me from d UsedUp = refuses me from asked.Take (Some d) refusals.Exhausted
takes_given me from d (Gives what broker) = responds me from (Delivered (Some what)) (Some (record d { broker = broker }))

abbrev pub takes_work : ℕ → Raft Command → ℕ → Result Desk Refusal → Option Desk → Act
takes_work me s from (Err r) d = refuses me from asked.Take d r
takes_work me s from (Ok o) d = takes_given me from o (deliver s.term (length s.log) o.broker)

-- Submit: the plan waits, unless its evaluation is unknown or the queue is full.
abbrev pub submits_of : ℕ → ℕ → Plan → Option Desk → Result Desk Refusal → Act
submits_of me from p d (Err r) = refuses me from (asked.Submit p.eval p.token) d r
submits_of me from p d (Ok o) = rests (Some o)

abbrev pub submits : ℕ → Raft Command → ℕ → Plan → Result Desk Refusal → Option Desk → Act
submits me s from p (Err r) d = refuses me from (asked.Submit p.eval p.token) d r
submits me s from p (Ok o) d = submits_of me from p d (submitted from (applied_state s) o p)

-- Finish: the status is proposed, and the pair is done with, unless the log refuses.
abbrev pub finishes_by : ℕ → ℕ → EvalId → Token → Command → Desk → Option Refusal → Act
finishes_by me from id token c o (Some r) = refuses me from (asked.Finish id token) (Some o) r
finishes_by me from id token c o None = record {
  ask = Some (AskPropose c);
  desk = Some (record o { broker = with_ack id o.broker });
  sent = [];
  work = [];
}

abbrev pub finishes_of : ℕ → Raft Command → ℕ → EvalId → Token → EvalOutcome → Desk → Result ℕ Refusal → Act
finishes_of me s from id token outcome o (Err r) = refuses me from (asked.Finish id token) (Some o) r
finishes_of me s from id token outcome o (Ok wait) =
    finishes_by me from id token (commands.EvalStatus id (change_of outcome)) o (admission_refusal cluster_spec s (commands.EvalStatus id (change_of outcome)))

abbrev pub finishes : ℕ → Raft Command → ℕ → EvalId → Token → EvalOutcome → Result Desk Refusal → Option Desk → Act
finishes me s from id token outcome (Err r) d = refuses me from (asked.Finish id token) d r
finishes me s from id token outcome (Ok o) d = finishes_of me s from id token outcome o (outstanding id token o.broker)

-- Nack: the pair is free again.
abbrev pub nacks_of : ℕ → ℕ → EvalId → Token → Desk → Result ℕ Refusal → Act
nacks_of me from id token o (Err r) = refuses me from (asked.Nack id token) (Some o) r
nacks_of me from id token o (Ok wait) = rests (Some (record o { broker = with_nack id o.broker }))

abbrev pub nacks : ℕ → ℕ → EvalId → Token → Result Desk Refusal → Option Desk → Act
nacks me from id token (Err r) d = refuses me from (asked.Nack id token) d r
nacks me from id token (Ok o) d = nacks_of me from id token o (outstanding id token o.broker)

-- each request; `open_desk` is the desk, or why it is not open
abbrev pub serves_request : ℕ → Raft Command → ℕ → Result Desk Refusal → Option Desk → WorkerRequest → Act
serves_request me s from open_desk d Take = takes_work me s from open_desk d
serves_request me s from open_desk d (Submit plan) = submits me s from plan open_desk d
serves_request me s from open_desk d (Finish eval token outcome) = finishes me s from eval token outcome open_desk d
serves_request me s from open_desk d (Nack eval token) = nacks me from eval token open_desk d

-- a response is for the workers
abbrev pub hands_out : ℕ → WorkerResponse → Option Desk → Act
hands_out from response d = record { ask = None; desk = d; sent = []; work = record { from = from; response = response } ∷ [] }

abbrev pub serves_worker : ℕ → Raft Command → ℕ → Result Desk Refusal → Option Desk → WorkerMessage → Act
serves_worker me s from open_desk d (Asks request) = serves_request me s from open_desk d request
serves_worker me s from open_desk d (Answers response) = hands_out from response d
