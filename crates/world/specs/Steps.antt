-- What a step of a world does, and what becomes of a list of events.
use Rattle.std.specs.Prelude.{◌≡◌, ◌≢◌, ℕ, suc, ◌<◌, ◌⊎◌, true, Some, Ok, Err, List, [], ◌∷◌, ◌++◌, length, slice_get}
use Rattle.rows.specs.declared.refusal.Refusal.{Refusal}
use Rattle.rows.specs.declared.refusal.Refusal.TheVariants as refusals
use Rattle.std.specs.List.{AllZip}
use Rattle.machine_model.specs.MachineSpec.{MachineSpec}
use Rattle.raft_model.specs.Rafts.{Raft}
use Rattle.raft_model.specs.Steps.{Input}
use Rattle.raft_model.specs.Worlds.{World, Event, first, Crashes, Outcome, Kept, LeftOut, Trace, moment, happens, acting_server, IsRestart}
use Rattle.raft_model.specs.Worlds.{Crashed as OutcomeCrashed}
use Rattle.raft_core.specs.RaftView.{RaftView, SameRaft}
use Rattle.raft_core.specs.Refusals.{OutOfMemoryMayEnd}
use Rattle.world.specs.declared.done.Done.{Done}
use Rattle.world.specs.declared.done.Done.TheVariants.{Taken, Crashed}
use Rattle.world.specs.Events.{event_input}
use Rattle.rows.specs.GroupSizes.{IsGroup}
use Rattle.world.specs.WorldView.{WorldView, RefinesWorld, RunsTo, IsRaftWorld}

-- The event happens in each world that `old` represents, and makes it one that `new` represents.
-- Each run of the old value goes on to one of the new value, by this event.
pub record EventHappened {S C : Type 0} (m : MachineSpec S C) (old : WorldView S C) (e : Event C) (new : WorldView S C) : Type 0 where
  pub size : length new.servers ≡ length old.servers
  pub trace : new.trace ≡ old.trace ++ e ∷ []
  pub worlds : (w : World C) → RefinesWorld m old w →
      (next : World C) × (happens m w e ≡ Ok next) × RefinesWorld m new next
  pub runs : (past : List (World C)) (w : World C) → RunsTo m old past w →
      (next : World C) × (happens m w e ≡ Ok next) × RunsTo m new (past ++ w ∷ []) next

-- in this world the event is an input for which its actor, which is s, may want memory
abbrev pub OutOfMemoryMayEndFor : {C : Type 0} → World C → Event C → Raft C → Type 0
OutOfMemoryMayEndFor {C} w e s = (input : Input C) × (event_input w e ≡ Some input) × OutOfMemoryMayEnd s.mode input

-- the event's actor found no memory, and crashes in its place
pub record ActorCrashed {S C : Type 0} (m : MachineSpec S C) (old : WorldView S C) (e : Event C) (new : WorldView S C) : Type 0 where
  pub who : ℕ
  pub actor : (w : World C) → RefinesWorld m old w → acting_server m w e ≡ Some who
  pub lacking : (w : World C) (s : Raft C) → RefinesWorld m old w → slice_get w.servers who ≡ Some s →
      OutOfMemoryMayEndFor w e s
  pub happened : EventHappened m old (Crashes who) new

-- a restart that could be, of a server that finds no memory: it stays down
pub record StaysDown {S C : Type 0} (m : MachineSpec S C) (old : WorldView S C) (e : Event C) (new : WorldView S C) : Type 0 where
  pub restart : IsRestart m e
  pub could : (w : World C) → RefinesWorld m old w → (next : World C) × (happens m w e ≡ Ok next)
  pub same : new ≡ old

-- what became of an event that was not refused
abbrev pub WasDone : {S C : Type 0} → MachineSpec S C → WorldView S C → Event C → Done → WorldView S C → Type 0
WasDone m old e Taken new = EventHappened m old e new
WasDone m old e Crashed new = ActorCrashed m old e new ⊎ StaysDown m old e new

-- A server as a refusal leaves it: the same one. A leader that refused a command may have made its
-- machine after its whole log; one that held it holds it still.
abbrev pub LeftServer : {S C : Type 0} → RaftView S C → RaftView S C → Type 0
LeftServer old new = SameRaft old new × (old.projected ≡ true → new.projected ≡ true)

-- Nothing happened: the same servers, as a refusal leaves them, messages, events and chain.
pub record SameWorld {S C : Type 0} (old new : WorldView S C) : Type 0 where
  pub servers : AllZip LeftServer old.servers new.servers
  pub sent : new.sent ≡ old.sent
  pub trace : new.trace ≡ old.trace
  pub chain : new.chain ≡ old.chain

-- the definitions refuse the event in the same way, in each run of the value
abbrev pub RefusesEvent : {S C : Type 0} → MachineSpec S C → WorldView S C → Event C → Refusal → Type 0
RefusesEvent {S} {C} m view e r =
    (past : List (World C)) (w : World C) → RunsTo m view past w → happens m w e ≡ Err r

-- In this world the event comes to its actor: that is there, and is up or is to restart, so that
-- the definitions do not refuse the event for its being down.
pub record ComesToServer {S C : Type 0} (m : MachineSpec S C) (w : World C) (e : Event C) : Type 0 where
  pub who : ℕ
  pub actor : acting_server m w e ≡ Some who
  pub there : who < length w.servers
  pub awake : happens m w e ≢ Err refusals.Down

abbrev pub IsAwake : {S C : Type 0} → MachineSpec S C → WorldView S C → Event C → Type 0
IsAwake {S} {C} m view e =
    (past : List (World C)) (w : World C) → RunsTo m view past w → ComesToServer m w e

-- the group before its first event: n servers that never did anything
pub record IsNew {S C : Type 0} (m : MachineSpec S C) (n : ℕ) (view : WorldView S C) : Type 0 where
  pub size : IsGroup n
  pub count : length view.servers ≡ n
  pub trace : view.trace ≡ []
  pub chain : view.chain ≡ 0
  pub refines : RefinesWorld m view (first n)

-- why there is no group: the size, or want of memory
abbrev pub IsNoGroup : ℕ → Refusal → Type 0
IsNoGroup n r = (r ≡ refusals.NoMemory) ⊎ ((r ≡ refusals.OutOfRange) × (IsGroup n → ⊥))

-- In place of this event its server's crash stands at this place of the trace, and at that moment
-- the event might want memory.
pub record OutOfMemoryCrash {S C : Type 0} (m : MachineSpec S C) (trace : List (Event C)) (past : List (World C)) (w : World C) (place : ℕ) (e : Event C) : Type 0 where
  pub before : World C
  pub who : ℕ
  pub before_is : moment past w place ≡ Some before
  pub crash_is : slice_get trace place ≡ Some (Crashes who)
  pub of : acting_server m before e ≡ Some who
  pub lacking : (s : Raft C) → slice_get before.servers who ≡ Some s → OutOfMemoryMayEndFor before e s

-- what may have become of an event: its server crashed only where it might want memory
abbrev pub MayBecome : {S C : Type 0} → MachineSpec S C → List (Event C) → List (World C) → World C → ℕ → Event C → Outcome → Type 0
MayBecome m trace past w place e Kept = Unit {0}
MayBecome m trace past w place e OutcomeCrashed = OutOfMemoryCrash m trace past w place e
MayBecome m trace past w place e (LeftOut r) = Unit {0}

-- where the next event stands in the trace, behind one that stands here, or was left out
abbrev pub next_position : ℕ → Outcome → ℕ
next_position place Kept = suc place
next_position place OutcomeCrashed = suc place
next_position place (LeftOut r) = place

-- Each event became what its outcome says, at its own place in the trace; the first is due at this
-- place.
abbrev pub EachBecame : {E : Type 0} → (ℕ → E → Outcome → Type 0) → ℕ → List E → List Outcome → Type 0
EachBecame R place [] [] = Unit {0}
EachBecame R place [] (o ∷ os) = ⊥
EachBecame R place (e ∷ es) [] = ⊥
EachBecame R place (e ∷ es) (o ∷ os) = R place e o × EachBecame R (next_position place o) es os

-- The value's trace is that of the events handed in: each was kept, was replaced by its actor's
-- crash, for want of memory, or was left out.
pub record Played {S C : Type 0} (m : MachineSpec S C) (n : ℕ) (handed : List (Event C)) (view : WorldView S C) : Type 0 where
  pub count : length view.servers ≡ n
  pub outcomes : List Outcome
  pub past : List (World C)
  pub world : World C
  pub trace : Trace m n handed outcomes view.trace past world
  pub runs : RunsTo m view past world
  pub became : EachBecame (MayBecome m view.trace past world) 0 handed outcomes

-- memory was wanting for the event of this outcome
abbrev pub WasOutOfMemory : Outcome → Type 0
WasOutOfMemory Kept = ⊥
WasOutOfMemory OutcomeCrashed = Unit {0}
WasOutOfMemory (LeftOut r) = r ≡ refusals.NoMemory

-- the same, and memory was wanting for one of the events handed in
pub record PlayedShort {S C : Type 0} (m : MachineSpec S C) (n : ℕ) (handed : List (Event C)) (view : WorldView S C) : Type 0 where
  pub played : Played m n handed view
  pub place : ℕ
  pub outcome : Outcome
  pub at : slice_get played.outcomes place ≡ Some outcome
  pub lacked : WasOutOfMemory outcome

-- two values of one run: it leads to the same servers, the same messages and the same chain
pub record SameRun {S C : Type 0} (m : MachineSpec S C) (one other : WorldView S C) : Type 0 where
  pub trace : other.trace ≡ one.trace
  pub chain : other.chain ≡ one.chain
  pub runs : (past : List (World C)) (w : World C) → RunsTo m one past w → RunsTo m other past w

-- A value of this trace and this many servers comes again from its trace, unless memory was wanting
-- for one of the events.
abbrev pub Replays : {S C : Type 0} → MachineSpec S C → ℕ → List (Event C) → WorldView S C → Type 0
Replays {S} {C} m n handed view = (old : WorldView S C) → IsRaftWorld m old → length old.servers ≡ n → old.trace ≡ handed → SameRun m old view ⊎ PlayedShort m n handed view
