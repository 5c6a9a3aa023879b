-- What a step of the log makes of a server of the group.
use Rattle.std.specs.Prelude.{◌≡◌, Bool, true, false, Option, Some, None, Result, Ok, OnOk, IfErr}
use Rattle.rows.specs.declared.command.Command.{Command}
use Rattle.rows.specs.declared.refusal.Refusal.{Refusal}
use Rattle.rows.specs.declared.refusal.Refusal.TheVariants as refusals
use Rattle.wire.specs.Messages.{Message as WireMessage}
use Rattle.raft_model.specs.Messages.{Message}
use Rattle.raft_core.specs.declared.input.Input.{Input as RaftInput}
use Rattle.raft_core.specs.declared.input.Input.TheVariants as raft_inputs
use Rattle.raft_core.specs.RaftView.{SameNumber}
use Rattle.raft_core.specs.StoredParts.{KeepsLog}
use Rattle.raft_core.specs.Frames.{Means}
use Rattle.fsm_model.specs.Words.{State}
use Rattle.fsm_model.specs.ClusterMachine.{cluster_spec}
use Rattle.group_model.specs.Messages.{GroupMessage, OfLog, Service}
use Rattle.group_model.specs.Inputs.{Restart, Ask, AskTimeout, AskHeartbeat, AskCompact, AskCrash, AskRestart, asks}
use Rattle.group_model.specs.Servers.{Server, takes_log_message}
use Rattle.group_frames.specs.GroupFrames.{service_of}
use Rattle.leader.specs.OpenDesks.{OpenDesk}
use Rattle.server.specs.declared.server.Outbox.{Outbox}
use Rattle.server.specs.ServerViews.{ServerView}
use Rattle.group_inputs.specs.Handings.{Handing, OwnInput}
use Rattle.server.specs.Keeping.{MayKeepHanding, StandsLast}
use Rattle.server.specs.Steps.{TakesTurn, TakesHanding, takes_in}
use Rattle.server.specs.Refusals.{MayEndOutOfMemory, handing_refusal, wrong_address}
use Rattle.server.specs.Inner.Acts.{EachServer, EachDoes, OutOfMemoryTurn, DoesNothing}

-- a desk, closed where the server does not lead
abbrev pub where_leads : Bool → Option OpenDesk → Option OpenDesk
where_leads true d = d
where_leads false d = None

-- after want of memory the desk is closed; any other refusal leaves it
abbrev pub DeskAfterRefusal : Refusal → Option OpenDesk → Option OpenDesk → Type 0
DeskAfterRefusal refusals.NoMemory old new = new ≡ None
DeskAfterRefusal cause old new = new ≡ old

-- the log took a message, and the desk followed
abbrev pub TakesLogMessage : ServerView → Message Command → ServerView → Outbox → Outbox → Type 0
TakesLogMessage old said new before after =
    EachServer old (λ s. TakesTurn (takes_log_message old.raft.size old.raft.me s said) new before after)

-- an input of the log's own is asked of it, and no frame
abbrev pub log_ask : RaftInput → Option Ask
log_ask (raft_inputs.Frame bytes) = None
log_ask raft_inputs.Timeout = Some AskTimeout
log_ask raft_inputs.Beat = Some AskHeartbeat
log_ask raft_inputs.Compact = Some AskCompact
log_ask raft_inputs.Crash = Some AskCrash
log_ask raft_inputs.Restart = Some AskRestart

abbrev pub TakesAsk : ServerView → Option Ask → ServerView → Outbox → Outbox → Type 0
TakesAsk old None new before after = ⊥
TakesAsk old (Some ask) new before after =
    EachDoes old (λ s. Ok (asks ask s.desk)) new before after

-- ---- messages that were read

-- a message that was read is this one
abbrev pub MeansGroup : WireMessage State Command → GroupMessage → Type 0
MeansGroup read (OfLog said) = Means cluster_spec read said
MeansGroup read (Service message) = service_of read ≡ Some message

abbrev pub TakesRead : ServerView → Server → WireMessage State Command → ServerView → Outbox → Outbox → Type 0
TakesRead old s read new before after =
    (message : GroupMessage) → MeansGroup read message
    → TakesTurn (takes_in old.raft.size old.raft.me s message) new before after

-- it is refused: for want of memory, or for its sender or receiver
abbrev pub DeclinesRead : ServerView → WireMessage State Command → Refusal → ServerView → Outbox → Outbox → Type 0
DeclinesRead old read refusals.NoMemory new before after = OutOfMemoryTurn old new before after
DeclinesRead old read cause new before after =
    EachServer old (λ s. wrong_address old.raft.size old.raft.me read.from read.to ≡ Some cause)
    × DoesNothing old new before after

-- one that is up takes it, or declines it
pub record IsRead (old : ServerView) (read : WireMessage State Command) (result : Result (Unit {0}) Refusal) (new : ServerView) (before after : Outbox) : Type 0 where
  pub same : SameNumber old.raft new.raft
  pub taken : OnOk result (EachServer old (λ s. TakesRead old s read new before after))
  pub admitted : OnOk result (EachServer old (λ s. wrong_address old.raft.size old.raft.me read.from read.to ≡ None))
  pub keeps : OnOk result (new.raft.base.index ≡ old.raft.base.index → KeepsLog old.raft new.raft)
  pub stopped : IfErr result (λ cause. DeclinesRead old read cause new before after)

-- ---- what is handed in, to a server that is up

-- memory was wanting, and what is handed in is no restart
abbrev pub LosesIn : ServerView → Handing → ServerView → Outbox → Outbox → Type 0
LosesIn old (OwnInput Restart) new before after = ⊥
LosesIn old h new before after =
    EachServer old (λ s. MayEndOutOfMemory old.raft.size s h) × OutOfMemoryTurn old new before after

abbrev pub DeclinesHanding : ServerView → Handing → Refusal → ServerView → Outbox → Outbox → Type 0
DeclinesHanding old h refusals.NoMemory new before after = LosesIn old h new before after
DeclinesHanding old h cause new before after =
    EachServer old (λ s. handing_refusal old.raft.size old.raft.me s h ≡ Some cause)
    × DoesNothing old new before after

-- it takes it, or declines it
pub record IsTaken (old : ServerView) (h : Handing) (result : Result (Unit {0}) Refusal) (new : ServerView) (before after : Outbox) : Type 0 where
  pub same : SameNumber old.raft new.raft
  pub taken : OnOk result (EachServer old (λ s. TakesHanding old s h new before after))
  pub admitted : OnOk result (EachServer old (λ s. handing_refusal old.raft.size old.raft.me s h ≡ None))
  pub keeps : OnOk result (MayKeepHanding h old.raft new.raft)
  pub stands : OnOk result (StandsLast h new)
  pub stopped : IfErr result (λ cause. DeclinesHanding old h cause new before after)
