-- What an event does to a scenario's group, its messages in flight and its workers.
use Rattle.std.specs.Prelude.{◌≡◌, ◌≢◌, ◌⊎◌, ◌++◌, ℕ, Bool, max, true, false, Option, Some, None, List, [], length, option_and_then, slice_get, slice_set}
use Rattle.rows.specs.declared.actor.Actor.{Actor}
use Rattle.rows.specs.declared.actor.Actor.TheVariants as actors
use Rattle.rows.specs.declared.refusal.Refusal.{Refusal}
use Rattle.rows.specs.declared.refusal.Refusal.TheVariants as refusals
use Rattle.raft_model.specs.Rafts.{is_up}
use Rattle.group_model.specs.Servers.{Server}
use Rattle.group_model.specs.Worlds.{Event, Deliver, AtServer, AtClient}
use Rattle.server.specs.ServerViews.{ServerView, RefinesServer}
use Rattle.world.specs.declared.done.Done.{Done}
use Rattle.world.specs.declared.done.Done.TheVariants.{Crashed, Taken}
use Rattle.world.specs.GroupSteps.{IsGroupDone, RefusesGroupEvent, SameView}
use Rattle.world.specs.GroupView.{GroupView}
use Rattle.workers.specs.PlanCounts.{WorkersView}
use Rattle.sim_play.specs.declared.play.Play.{Play}
use Rattle.sim_play.specs.Flight.{InFlight, newly_sent}

-- ---- the server that takes an event

abbrev pub server_in : Actor → Option ℕ
server_in (actors.Server server) = Some server
server_in (actors.Client client) = None

-- the one that a message is for; none where it is for a client, or there is no such message
abbrev pub server_of : GroupView → Event → Option ℕ
server_of world (Deliver place) =
    option_and_then (λ frame. server_in frame.to) (slice_get world.outbox.frames place)
server_of world (AtServer server input) = Some server
server_of world (AtClient client input) = None

-- ---- whether a server is up

-- the group has it, and it is up
pub record IsUpIn (world : GroupView) (server : ℕ) : Type 0 where
  pub view : ServerView
  pub at : slice_get world.servers server ≡ Some view
  pub up : (s : Server) → RefinesServer view s → is_up s.raft.mode ≡ true

-- if the group has it, it is down
abbrev pub IsDownIn : GroupView → ℕ → Type 0
IsDownIn world server =
    (view : ServerView) → slice_get world.servers server ≡ Some view
    → (s : Server) → RefinesServer view s → is_up s.raft.mode ≡ false

-- ---- what came for workers

-- what came for workers was fetched
abbrev pub fetched : GroupView → GroupView
fetched world = record world { outbox = record world.outbox { work = [] } }

-- what came waits behind what waited; nothing waits where the server is down
abbrev pub AreHanded : GroupView → ℕ → WorkersView → WorkersView → Type 0
AreHanded world server old new =
    (IsUpIn world server × (new ≡ record old { waiting = old.waiting ++ world.outbox.work }))
    ⊎ (IsDownIn world server × (new ≡ record old { waiting = [] }))

-- what came is handed to the workers of this server, and to no others
pub record Handed (world : GroupView) (server : ℕ) (old new : List WorkersView) : Type 0 where
  pub before : WorkersView
  pub after : WorkersView
  pub own : slice_get old server ≡ Some before
  pub handed : AreHanded world server before after
  pub others : new ≡ slice_set old server after

-- the same, where a server took the event; else the workers have what they had
abbrev pub HandedAt : GroupView → Option ℕ → List WorkersView → List WorkersView → Type 0
HandedAt world None old new = new ≡ old
HandedAt world (Some server) old new = Handed world server old new

abbrev pub fetched_at : Option ℕ → GroupView → GroupView
fetched_at None world = world
fetched_at (Some server) world = fetched world

-- ---- whether an actor lacked memory

-- with what came of one event more
abbrev pub out_of_memory_after : Bool → Done → Bool
out_of_memory_after lacked Taken = lacked
out_of_memory_after lacked Crashed = true

-- ---- an event

-- all that was sent is in flight: what is new behind what was
pub record Admitted (old : InFlight) (sent : ℕ) (new : InFlight) : Type 0 where
  pub waiting : new.waiting ≡ old.waiting ++ newly_sent old.seen sent
  pub seen : new.seen ≡ max old.seen sent

-- It happened to the group; what came by it is handed to the workers of the server that took it;
-- and what was sent by it is in flight.
pub record EventTaken (old : Play) (event : Event) (new : Play) : Type 0 where
  pub world : GroupView
  pub done : Done
  pub happened : IsGroupDone old.world event done world
  pub group : new.world ≡ fetched_at (server_of old.world event) world
  pub workers : HandedAt world (server_of old.world event) old.workers new.workers
  pub flight : Admitted old.flight (length world.outbox.frames) new.flight
  pub lacked : new.lacked ≡ out_of_memory_after old.lacked done
  pub rest : new ≡ record old {
    world = new.world;
    workers = new.workers;
    flight = new.flight;
    lacked = new.lacked;
  }

-- It was refused, as the group refuses it, and nothing changed.
pub record EventRefused (old : Play) (event : Event) (refusal : Refusal) (new : Play) : Type 0 where
  pub reason : refusal ≢ refusals.NoMemory
  pub cause : RefusesGroupEvent old.world event refusal
  pub group : SameView old.world new.world
  pub rest : new ≡ record old { world = new.world }
