-- The two kinds of what is driven: servers of the log alone, and a whole group.
use Rattle.std.specs.Prelude.{◌≡◌, ℕ, ◌+◌, ◌^◌, ◌<◌, Some, Ok, List, ◌++◌, length, map, take, slice_get}
use Rattle.rows.specs.declared.command.Command.{Command}
use Rattle.machine_model.specs.MachineSpec.{MachineSpec}
use Rattle.raft_model.specs.Messages.{Message}
use Rattle.raft_model.specs.Rafts.{Raft}
use Rattle.raft_model.specs.Worlds as raft_worlds
use Rattle.fsm_model.specs.Words.{State}
use Rattle.fsm_model.specs.ClusterMachine.{cluster_spec}
use Rattle.group_model.specs.Inputs as inputs
use Rattle.group_model.specs.Messages.{OfLog}
use Rattle.group_model.specs.Worlds.{World, Event, Deliver, AtServer, IsEvent, happens, crash_of, raft_of, raft_messages}
use Rattle.group_safety.specs.Limits.{NodesFit}
use Rattle.world.specs.WorldView.{WorldView, RunsTo}
use Rattle.world.specs.Steps.{OutOfMemoryMayEndFor}
use Rattle.world.specs.GroupView.{GroupView, GroupRunsTo, nodes_of}
use Rattle.world.specs.GroupSteps.{OutOfMemoryMayEndAt}
use Rattle.recovery.specs.declared.calm_event.CalmEvent.{CalmEvent}
use Rattle.recovery.specs.declared.calm_event.CalmEvent.TheVariants as calms
use Rattle.recovery.specs.Inner.Drives.{Drive}

-- a place has a number, as a message of that place has in an event
abbrev pub HasNumber : CalmEvent → Type 0
HasNumber (calms.Deliver place) = place + 1 < 2 ^ 64
HasNumber (calms.Timeout i) = Unit {0}
HasNumber (calms.Beat i) = Unit {0}

-- ---- servers of the log

-- the event of such servers
abbrev pub log_event_of : {C : Type 0} → CalmEvent → raft_worlds.Event C
log_event_of (calms.Deliver place) = raft_worlds.Deliver place
log_event_of (calms.Timeout i) = raft_worlds.TimesOut i
log_event_of (calms.Beat i) = raft_worlds.Beats i

module _ {S C : Type 0} (m : MachineSpec S C) where
  -- in place of an event for which it may have wanted memory, its server crashed
  pub record LogFalls (w : raft_worlds.World C) (who : ℕ) (own : raft_worlds.Event C)
      (v : raft_worlds.World C) : Type 0 where
    pub event : raft_worlds.Event C
    pub actor : raft_worlds.acting_server m w event ≡ Some who
    pub lacking : (s : Raft C) → slice_get w.servers who ≡ Some s → OutOfMemoryMayEndFor w event s
    pub crash : raft_worlds.happens m w (raft_worlds.Crashes who) ≡ Ok v
    pub own_is : own ≡ raft_worlds.Crashes who

  pub record LogStep (w : raft_worlds.World C) (own e : raft_worlds.Event C)
      (v : raft_worlds.World C) : Type 0 where
    pub own_is : own ≡ e
    pub happens : raft_worlds.happens m w e ≡ Ok v

  abbrev pub log_drive : Drive (WorldView S C) S C
  log_drive = record {
    Moment = raft_worlds.World C;
    Own = raft_worlds.Event C;
    size = λ view. length view.servers;
    trace = λ view. view.trace;
    Stays = λ old new. Unit {0};
    Runs = λ view past w. RunsTo m view past w;
    log = λ w. w;
    sent = λ w. length w.sent;
    At = λ w place p. place ≡ p;
    Step = λ w own e v. LogStep w own e v;
    Falls = λ w who own v. LogFalls w who own v;
  }

-- ---- a whole group

-- the event of a group
abbrev pub group_event_of : CalmEvent → Event
group_event_of (calms.Deliver place) = Deliver place
group_event_of (calms.Timeout i) = AtServer i inputs.Timeout
group_event_of (calms.Beat i) = AtServer i inputs.Beat

-- the value's run, and its nodes are within their limits
pub record GroupRuns (view : GroupView) (past : List World) (w : World) : Type 0 where
  pub runs : GroupRunsTo view past w
  pub nodes : NodesFit (nodes_of view)

-- its nodes stay, and what came for workers
pub record GroupStays (old new : GroupView) : Type 0 where
  pub nodes : nodes_of new ≡ nodes_of old
  pub work : new.outbox.work ≡ old.outbox.work

-- the message at this place of all is that of the log at this place of the log's
pub record IsLogPlace (w : World) (place p : ℕ) : Type 0 where
  pub message : Message Command
  pub at : slice_get w.sent place ≡ Some (OfLog message)
  pub place_is : p ≡ length (raft_messages (take place w.sent))

-- an event of the group is this one of the log
pub data IsLogEvent (w : World) : Event → raft_worlds.Event Command → Type 0 where
  is_delivery : (place p : ℕ) → IsLogPlace w place p →
      IsLogEvent w (Deliver place) (raft_worlds.Deliver p)
  is_timeout : (i : ℕ) → IsLogEvent w (AtServer i inputs.Timeout) (raft_worlds.TimesOut i)
  is_beat : (i : ℕ) → IsLogEvent w (AtServer i inputs.Beat) (raft_worlds.Beats i)

pub record GroupStep (w : World) (own : Event) (e : raft_worlds.Event Command) (v : World)
    : Type 0 where
  pub is : IsLogEvent w own e
  pub fits : IsEvent w own
  pub happens : happens w own ≡ Ok v
  pub log : raft_worlds.happens cluster_spec (raft_of w) e ≡ Ok (raft_of v)
  pub messages : List (Message Command)
  pub sent : v.sent ≡ w.sent ++ map OfLog messages

-- in place of an event for which it may have wanted memory, its server crashed
pub record GroupFalls (w : World) (who : ℕ) (own : Event) (v : World) : Type 0 where
  pub event : Event
  pub actor : crash_of w event ≡ Some (AtServer who inputs.Crash)
  pub lacking : OutOfMemoryMayEndAt w event
  pub crash : happens w (AtServer who inputs.Crash) ≡ Ok v
  pub own_is : own ≡ AtServer who inputs.Crash

abbrev pub group_drive : Drive GroupView State Command
group_drive = record {
  Moment = World;
  Own = Event;
  size = λ view. length view.servers;
  trace = λ view. view.trace;
  Stays = λ old new. GroupStays old new;
  Runs = λ view past w. GroupRuns view past w;
  log = λ w. raft_of w;
  sent = λ w. length w.sent;
  At = λ w place p. IsLogPlace w place p;
  Step = λ w own e v. GroupStep w own e v;
  Falls = λ w who own v. GroupFalls w who own v;
}
