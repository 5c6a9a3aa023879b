-- What the parts of a step do, on a server that is up.
use Rattle.std.specs.Prelude.{◌≡◌, ℕ, true, is_some, Option, Some, None, Result, Ok, Err}
use Rattle.rows.specs.declared.command.Command.{Command}
use Rattle.rows.specs.declared.refusal.Refusal.{Refusal}
use Rattle.rows.specs.declared.refusal.Refusal.TheVariants as refusals
use Rattle.rows.specs.declared.worker.WorkerRequest.{WorkerRequest}
use Rattle.rows.specs.declared.worker.WorkerRequest.TheVariants.{Take, Submit, Finish, Nack}
use Rattle.rows.specs.declared.worker.WorkerResponse.{WorkerResponse}
use Rattle.rows.specs.declared.worker.ClientRequestKind.{ClientRequestKind}
use Rattle.raft_model.specs.Rafts.{Raft, is_leader, crashed, extended}
use Rattle.raft_model.specs.Steps as raft_steps
use Rattle.raft_core.specs.Inner.Turns.{KeepsFront}
use Rattle.fsm_model.specs.ClusterMachine.{cluster_spec}
use Rattle.group_model.specs.Messages.{ClientRequest}
use Rattle.group_model.specs.Desks.{Desk}
use Rattle.group_model.specs.Inputs.{Input, TakeFrom, SubmitTo, FinishAt, NackAt, Act, AskPropose, rests, asks}
use Rattle.group_model.specs.DeskTurns.{drain_turn}
use Rattle.group_model.specs.WorkerRequests.{serves_request, hands_out}
use Rattle.group_model.specs.ClientRequests.{serves_client, writes}
use Rattle.group_model.specs.Servers.{Server, open_or, open_desk, at_desk, acts, done}
use Rattle.server.specs.declared.server.Outbox.{Outbox}
use Rattle.server.specs.ServerViews.{ServerView, RefinesServer, SameServer}
use Rattle.server.specs.Steps.{TakesTurn}
use Rattle.server.specs.Refusals.{CanAppend, OutOfMemoryMayEnd}

-- so of each server of the definitions that a value is
abbrev pub EachServer : ServerView → (Server → Type 0) → Type 0
EachServer view P = (s : Server) → RefinesServer view s → P s

-- it leads, and its desk is open
pub record Serves (view : ServerView) : Type 0 where
  pub leads : is_leader view.raft.server.mode ≡ true
  pub is_open : is_some view.desk ≡ true

-- server `me` of n does the act of the definitions
abbrev pub DoesAct : ℕ → ℕ → Server → Result Act Refusal → ServerView → Outbox → Outbox → Type 0
DoesAct n me s act new before after = TakesTurn (done n me s act) new before after

-- each server that a value is does that act of its own
abbrev pub EachDoes : ServerView → (Server → Result Act Refusal) → ServerView → Outbox → Outbox → Type 0
EachDoes old act new before after =
    EachServer old (λ s. DoesAct old.raft.size old.raft.me s (act s) new before after)

-- that of an input of its own
abbrev pub act_of : ServerView → Input → Server → Result Act Refusal
act_of view input s = acts view.raft.size view.raft.me s input

-- that of a request of another server's workers, or of its own
abbrev pub request_act : ServerView → ℕ → WorkerRequest → Server → Result Act Refusal
request_act view from request s =
    Ok (serves_request view.raft.me s.raft from (open_desk s) s.desk request)

-- that of an answer to its own workers
abbrev pub response_act : ℕ → WorkerResponse → Server → Result Act Refusal
response_act from response s = Ok (hands_out from response s.desk)

-- that of a client's request
abbrev pub client_act : ServerView → ℕ → ClientRequest → Server → Result Act Refusal
client_act view client request s =
    Ok (serves_client view.raft.me s.raft client (open_desk s) s.desk request)

-- that of a command that a client's request asks for
abbrev pub write_act : ServerView → ℕ → ClientRequestKind → Command → Server → Result Act Refusal
write_act view client kind command s =
    Ok (writes view.raft.me s.raft client kind command s.desk)

-- a request of its own workers, as an input
abbrev pub asks_of : ℕ → WorkerRequest → Input
asks_of to Take = TakeFrom to
asks_of to (Submit plan) = SubmitTo to plan
asks_of to (Finish eval token outcome) = FinishAt to eval token outcome
asks_of to (Nack eval token) = NackAt to eval token

-- Memory was wanting: what is stored is as it was, and nothing of what was sent before is lost.
-- What the server does not store may be anything that its type allows.
pub record OutOfMemoryTurn (old new : ServerView) (before after : Outbox) : Type 0 where
  pub me : new.raft.me ≡ old.raft.me
  pub size : new.raft.size ≡ old.raft.size
  pub base : new.raft.base ≡ old.raft.base
  pub stored : crashed new.raft.server ≡ crashed old.raft.server
  pub front : KeepsFront before.frames after.frames
  pub work : after.work ≡ before.work

-- nothing was done
pub record DoesNothing (old new : ServerView) (before after : Outbox) : Type 0 where
  pub same : SameServer old new
  pub nothing : after ≡ before

-- An input of its own is refused: for want of memory where some may be wanted, else as the
-- definitions refuse it.
abbrev pub DeclinesOwn : ServerView → Input → Refusal → ServerView → Outbox → Outbox → Type 0
DeclinesOwn old input refusals.NoMemory new before after =
    EachServer old (λ s. OutOfMemoryMayEnd old.raft.size s input) × OutOfMemoryTurn old new before after
DeclinesOwn old input cause new before after =
    EachServer old (λ s. done old.raft.size old.raft.me s (act_of old input s) ≡ Err cause)
    × DoesNothing old new before after

-- ---- proposals

-- a leader appended a command that nothing refused; its desk stays
pub record IsProposed (s : Server) (c : Command) (new : ServerView) : Type 0 where
  pub leads : is_leader s.raft.mode ≡ true
  pub admitted : raft_steps.admission_refusal cluster_spec s.raft c ≡ None
  pub server : RefinesServer new (record s { raft = extended s.raft c })

-- why the log refuses a command
abbrev pub WhyNotProposed : Raft Command → Command → Refusal → Type 0
WhyNotProposed s c refusals.NoMemory = CanAppend s
WhyNotProposed s c cause = raft_steps.proposes cluster_spec s c ≡ Err cause

-- ---- a turn of a node's drain

-- that of a leader with this desk
abbrev pub drain_at : Raft Command → Option Desk → ℕ → Result Act Refusal
drain_at s d node = at_desk (open_or d) (λ o. drain_turn s o node)

-- the command, if there is one, is proposed
abbrev pub proposes_if_any : Option Desk → Option Command → Act
proposes_if_any d None = rests d
proposes_if_any d (Some c) = asks (AskPropose c) d
