-- What a step of a group does, and what becomes of a list of events.
use Rattle.std.specs.Prelude.{◌≡◌, ◌≢◌, ℕ, ◌<◌, ◌≤◌, ◌⊎◌, Option, Some, None, Ok, Err, List, [], ◌∷◌, ◌++◌, length, slice_get}
use Rattle.std.specs.List.{AllZip}
use Rattle.rows.specs.declared.allocation.AllocId.{AllocId}
use Rattle.rows.specs.declared.node.NodeSpec.{NodeSpec}
use Rattle.rows.specs.declared.refusal.Refusal.{Refusal}
use Rattle.rows.specs.declared.refusal.Refusal.TheVariants as refusals
use Rattle.raft_model.specs.Worlds.{Outcome, Kept, LeftOut}
use Rattle.raft_model.specs.Worlds.{Crashed as OutcomeCrashed}
use Rattle.group_model.specs.Inputs as inputs
use Rattle.group_model.specs.Agents as agents
use Rattle.group_model.specs.Agents.{Agent}
use Rattle.group_model.specs.Servers.{Server}
use Rattle.group_model.specs.Worlds.{World, Event, Deliver, AtServer, AtClient, first, happens, crash_of, client_at, IsRestart, Trace, moment}
use Rattle.client_agent.specs.Refusals.{RunsIn}
use Rattle.server.specs.ServerViews.{SameServer}
use Rattle.server.specs.Refusals.{OutOfMemoryMayEnd}
use Rattle.world.specs.declared.done.Done.{Done}
use Rattle.world.specs.declared.done.Done.TheVariants.{Taken, Crashed}
use Rattle.rows.specs.GroupSizes.{IsGroup}
use Rattle.world.specs.GroupWork.{work_of, works}
use Rattle.world.specs.GroupView.{GroupView, RefinesGroup, GroupRunsTo, GroupInvariant, nodes_of, renumbered}
use Rattle.world.specs.Steps.{EachBecame, WasOutOfMemory}

-- The event happens in each world that `old` represents, and makes it one that `new` represents;
-- what its server's workers get is put behind what is not fetched yet. Each run of the old value
-- goes on to one of the new value, by this event.
pub record GroupEventHappened (old : GroupView) (e : Event) (new : GroupView) : Type 0 where
  pub size : length new.servers ≡ length old.servers
  pub nodes : nodes_of new ≡ nodes_of old
  pub trace : new.trace ≡ old.trace ++ e ∷ []
  pub work : (w : World) → RefinesGroup old w → new.outbox.work ≡ old.outbox.work ++ work_of w e
  pub worlds : (w : World) → RefinesGroup old w →
      (next : World) × (happens w e ≡ Ok next) × RefinesGroup new next
  pub runs : (past : List World) (w : World) → GroupRunsTo old past w →
      (next : World) × (happens w e ≡ Ok next) × GroupRunsTo new (past ++ w ∷ []) next

-- the allocation runs at the client
abbrev pub RunsThere : Option Agent → AllocId → Type 0
RunsThere None id = ⊥
RunsThere (Some x) id = RunsIn x.life id

-- In this world the event may want memory: what comes may, but not as an input of an actor's own; a
-- server's own input as that says; of a client's own one that goes to a server of the group, and
-- the end of an allocation that runs there.
abbrev pub OutOfMemoryMayEndAt : World → Event → Type 0
OutOfMemoryMayEndAt w (Deliver k) = Unit {0}
OutOfMemoryMayEndAt w (AtServer i (inputs.Arrives message)) = ⊥
OutOfMemoryMayEndAt w (AtServer i input) =
    (s : Server) → slice_get w.servers i ≡ Some s → OutOfMemoryMayEnd (length w.servers) s input
OutOfMemoryMayEndAt w (AtClient c (agents.RegisterAt server)) = server < length w.servers
OutOfMemoryMayEndAt w (AtClient c (agents.Ping server)) = server < length w.servers
OutOfMemoryMayEndAt w (AtClient c (agents.PullFrom server)) = server < length w.servers
OutOfMemoryMayEndAt w (AtClient c (agents.End id ok)) = RunsThere (client_at w.clients c) id
OutOfMemoryMayEndAt w (AtClient c _) = ⊥

-- the event's actor found no memory, and crashes in its place
pub record GroupActorCrashed (old : GroupView) (e : Event) (new : GroupView) : Type 0 where
  pub crash : Event
  pub actor : (w : World) → RefinesGroup old w → crash_of w e ≡ Some crash
  pub lacking : (w : World) → RefinesGroup old w → OutOfMemoryMayEndAt w e
  pub happened : GroupEventHappened old crash new

-- a restart that could be, of an actor that finds no memory: it stays down
pub record GroupStaysDown (old : GroupView) (e : Event) (new : GroupView) : Type 0 where
  pub restart : IsRestart e
  pub lacking : (w : World) → RefinesGroup old w → OutOfMemoryMayEndAt w e
  pub could : (w : World) → RefinesGroup old w → (next : World) × (happens w e ≡ Ok next)
  pub same : new ≡ old

-- what became of an event that was not refused
abbrev pub IsGroupDone : GroupView → Event → Done → GroupView → Type 0
IsGroupDone old e Taken new = GroupEventHappened old e new
IsGroupDone old e Crashed new = GroupActorCrashed old e new ⊎ GroupStaysDown old e new

-- Nothing happened: the same servers, clients, messages, events and chain. A leader that refused a
-- command may have made its machine after its whole log.
pub record SameView (old new : GroupView) : Type 0 where
  pub servers : AllZip SameServer old.servers new.servers
  pub clients : new.clients ≡ old.clients
  pub outbox : new.outbox ≡ old.outbox
  pub trace : new.trace ≡ old.trace
  pub chain : new.chain ≡ old.chain

-- the definitions refuse the event in the same way, in each run of the value
abbrev pub RefusesGroupEvent : GroupView → Event → Refusal → Type 0
RefusesGroupEvent view e r = (past : List World) (w : World) → GroupRunsTo view past w → happens w e ≡ Err r

-- the actor of this event is there
abbrev pub HasActor : World → Event → Type 0
HasActor w (Deliver place) = ⊥
HasActor w (AtServer i input) = i < length w.servers
HasActor w (AtClient c input) = (1 ≤ c) × (c ≤ length w.clients)

-- no message that comes as an input of an actor's own
abbrev pub IsNoArrival : Event → Type 0
IsNoArrival (AtServer i (inputs.Arrives message)) = ⊥
IsNoArrival (AtClient c (agents.Arrives from response)) = ⊥
IsNoArrival e = Unit {0}

-- In this world the event comes to its actor: that is there, and is up or is to restart, so that
-- the definitions do not refuse the event for its being down; and no message comes as an input of
-- the actor's own.
pub record ComesToActor (w : World) (e : Event) : Type 0 where
  pub crash : Event
  pub actor : crash_of w e ≡ Some crash
  pub there : HasActor w crash
  pub own : IsNoArrival e
  pub awake : happens w e ≢ Err refusals.Down

abbrev pub IsGroupAwake : GroupView → Event → Type 0
IsGroupAwake view e = (past : List World) (w : World) → GroupRunsTo view past w → ComesToActor w e

-- the group before its first event: n servers and these nodes' clients that never did anything
pub record IsNewGroup (n : ℕ) (nodes : List NodeSpec) (view : GroupView) : Type 0 where
  pub size : IsGroup n
  pub count : length view.servers ≡ n
  pub nodes_are : nodes_of view ≡ renumbered 1 nodes
  pub few : length nodes ≤ 64
  pub trace : view.trace ≡ []
  pub chain : view.chain ≡ 0
  pub work : view.outbox.work ≡ []
  pub refines : RefinesGroup view (first n (nodes_of view))

-- why there is no group: its size, too many nodes, or want of memory
abbrev pub WhyNoGroup : ℕ → List NodeSpec → Refusal → Type 0
WhyNoGroup n nodes r = (r ≡ refusals.NoMemory) ⊎ ((r ≡ refusals.OutOfRange) × (IsGroup n → length nodes ≤ 64 → ⊥))

-- At this moment of the run the event might want memory.
pub record WasOutOfMemoryAllowed (past : List World) (w : World) (place : ℕ) (e : Event) : Type 0 where
  pub before : World
  pub before_is : moment past w place ≡ Some before
  pub lacking : OutOfMemoryMayEndAt before e

-- In place of this event its actor's crash stands at this place of the trace, and the event might
-- want memory then.
pub record GroupOutOfMemoryCrash (trace : List Event) (past : List World) (w : World) (place : ℕ) (e : Event) : Type 0 where
  pub due : WasOutOfMemoryAllowed past w place e
  pub crash : Event
  pub crash_is : slice_get trace place ≡ Some crash
  pub of : crash_of due.before e ≡ Some crash

-- What may have become of an event: its actor crashed only where it might want memory, and only
-- there it was left out for want of memory.
abbrev pub GroupMayBecome : List Event → List World → World → ℕ → Event → Outcome → Type 0
GroupMayBecome trace past w place e Kept = Unit {0}
GroupMayBecome trace past w place e OutcomeCrashed = GroupOutOfMemoryCrash trace past w place e
GroupMayBecome trace past w place e (LeftOut r) = r ≡ refusals.NoMemory → WasOutOfMemoryAllowed past w place e

-- The value's trace is that of the events handed in: each was kept, was replaced by its actor's
-- crash, for want of memory, or was left out. What workers got by all of them is there to be
-- fetched.
pub record GroupPlayed (n : ℕ) (nodes : List NodeSpec) (handed : List Event) (view : GroupView) : Type 0 where
  pub count : length view.servers ≡ n
  pub nodes_are : nodes_of view ≡ renumbered 1 nodes
  pub outcomes : List Outcome
  pub past : List World
  pub world : World
  pub trace : Trace n (renumbered 1 nodes) handed outcomes view.trace past world
  pub runs : GroupRunsTo view past world
  pub became : EachBecame (GroupMayBecome view.trace past world) 0 handed outcomes
  pub work : view.outbox.work ≡ works past view.trace

-- the same, and memory was wanting for one of the events handed in
pub record GroupPlayedShort (n : ℕ) (nodes : List NodeSpec) (handed : List Event) (view : GroupView) : Type 0 where
  pub played : GroupPlayed n nodes handed view
  pub place : ℕ
  pub outcome : Outcome
  pub at : slice_get played.outcomes place ≡ Some outcome
  pub lacked : WasOutOfMemory outcome

-- two values of one run: it leads to the same servers, clients, messages and chain
pub record SameGroupRun (one other : GroupView) : Type 0 where
  pub trace : other.trace ≡ one.trace
  pub chain : other.chain ≡ one.chain
  pub runs : (past : List World) (w : World) → GroupRunsTo one past w → GroupRunsTo other past w

-- A value of this trace, this many servers and these nodes comes again from its trace, unless
-- memory was wanting for one of the events.
abbrev pub GroupReplays : ℕ → List NodeSpec → List Event → GroupView → Type 0
GroupReplays n nodes handed view = (old : GroupView) → GroupInvariant old → length old.servers ≡ n → nodes_of old ≡ renumbered 1 nodes → old.trace ≡ handed → SameGroupRun old view ⊎ GroupPlayedShort n nodes handed view
