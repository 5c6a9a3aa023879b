-- Why an actor refuses an event.
use Rattle.std.specs.Prelude.{◌≡◌, ◌⊎◌, true, false, Bool}
use Rattle.rows.specs.declared.refusal.Refusal.{Refusal}
use Rattle.rows.specs.declared.refusal.Refusal.TheVariants as refusals
use Rattle.client_agent.specs.AgentView.{AgentView}
use Rattle.group_inputs.specs.declared.client_input.ClientInput.{ClientInput}
use Rattle.group_inputs.specs.declared.client_input.ClientInput.TheVariants as client_inputs
use Rattle.server.specs.ServerViews.{ServerView}
use Rattle.group_inputs.specs.Handings.{Handing, FrameBytes, OwnInput as TakesOwn, handing}
use Rattle.actor.specs.declared.group_actor.GroupActor.{GroupActor}
use Rattle.actor.specs.declared.group_actor.GroupActor.TheVariants.{Server, Client}
use Rattle.actor.specs.Actors.{IsUpActor}
use Rattle.actor.specs.Handed.{restarts_server, restarts_client}
use Rattle.actor.specs.Refusals.{ServerRefuses, ServerMayEndOutOfMemory, ClientRefuses, ClientMayEndOutOfMemory}
use Rattle.event_book.specs.declared.view.EventView.{EventView}
use Rattle.event_book.specs.declared.view.EventView.TheVariants.{Own, Delivery, Crash}
use Rattle.cells.specs.declared.own_input.OwnInput.{OwnInput}
use Rattle.cells.specs.declared.own_input.OwnInput.TheVariants as own

-- ---- up, down, restarts

abbrev pub restarts : EventView OwnInput → Bool
restarts (Own (own.Server input)) = restarts_server (handing input.value)
restarts (Own (own.Client input)) = restarts_client input.value
restarts (Delivery stamp place frame) = false
restarts Crash = false

-- one that is down takes up a restart alone
abbrev pub TakesUp : GroupActor → EventView OwnInput → Type 0
TakesUp actor event = IsUpActor actor true ⊎ (restarts event ≡ true)

abbrev pub IsDeafTo : GroupActor → EventView OwnInput → Type 0
IsDeafTo actor event = IsUpActor actor false × (restarts event ≡ false)

-- ---- what the definitions refuse

-- a frame is no input of an actor's own
abbrev pub InputRefused : ServerView → Handing → Refusal → Type 0
InputRefused v (FrameBytes bytes) r = r ≡ refusals.OutOfRange
InputRefused v (TakesOwn input) r = ServerRefuses v (TakesOwn input) r

abbrev pub ClientInputRefused : AgentView → ClientInput → Refusal → Type 0
ClientInputRefused a (client_inputs.Frame bytes) r = r ≡ refusals.OutOfRange
ClientInputRefused a given r = ClientRefuses a given r

-- An event of an actor that is up, or a restart: it is refused so. An input of the other kind, and
-- a frame that is handed in as an input, are out of range.
abbrev pub ActorRefuses : GroupActor → EventView OwnInput → Refusal → Type 0
ActorRefuses (Server v) (Own (own.Server input)) r = InputRefused v (handing input.value) r
ActorRefuses (Server v) (Own (own.Client input)) r = r ≡ refusals.OutOfRange
ActorRefuses (Server v) (Delivery stamp place frame) r = ServerRefuses v (FrameBytes frame) r
ActorRefuses (Server v) Crash r = ⊥
ActorRefuses (Client a) (Own (own.Server input)) r = r ≡ refusals.OutOfRange
ActorRefuses (Client a) (Own (own.Client input)) r = ClientInputRefused a input.value r
ActorRefuses (Client a) (Delivery stamp place frame) r = ClientRefuses a (client_inputs.Frame frame) r
ActorRefuses (Client a) Crash r = ⊥

-- ---- want of memory

-- the event may want memory at this actor
abbrev pub ActorMayEndOutOfMemory : GroupActor → EventView OwnInput → Type 0
ActorMayEndOutOfMemory (Server v) (Own (own.Server input)) = ServerMayEndOutOfMemory v (handing input.value)
ActorMayEndOutOfMemory (Server v) (Own (own.Client input)) = ⊥
ActorMayEndOutOfMemory (Server v) (Delivery stamp place frame) = ServerMayEndOutOfMemory v (FrameBytes frame)
ActorMayEndOutOfMemory (Server v) Crash = ⊥
ActorMayEndOutOfMemory (Client a) (Own (own.Server input)) = ⊥
ActorMayEndOutOfMemory (Client a) (Own (own.Client input)) = ClientMayEndOutOfMemory a input.value
ActorMayEndOutOfMemory (Client a) (Delivery stamp place frame) = ClientMayEndOutOfMemory a (client_inputs.Frame frame)
ActorMayEndOutOfMemory (Client a) Crash = ⊥
