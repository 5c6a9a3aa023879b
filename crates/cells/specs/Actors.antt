-- The actors of a group, each a server or a client, and what one step of each is.
use Rattle.std.specs.Prelude.{◌≡◌, ℕ, suc, max, Some, List, [], ◌∷◌, map, slice_get}
use Rattle.rows.specs.declared.actor.Actor.{Actor}
use Rattle.rows.specs.declared.actor.Actor.TheVariants as actors
use Rattle.rows.specs.declared.node.NodeSpec.{NodeSpec}
use Rattle.rows.specs.declared.worker.Work.{Work}
use Rattle.wire.specs.Frames.{Frame}
use Rattle.group_model.specs.Agents.{agent_of}
use Rattle.group_model.specs.Agents as agents
use Rattle.group_model.specs.Inputs as inputs
use Rattle.group_model.specs.Servers.{newcomer}
use Rattle.group_model.specs.Worlds.{Event, AtServer, AtClient}
use Rattle.client_agent.specs.AgentView.{AgentView}
use Rattle.group_inputs.specs.declared.client_input.ClientInput.{ClientInput}
use Rattle.group_inputs.specs.declared.client_input.ClientInput.TheVariants as client_inputs
use Rattle.server.specs.ServerViews.{ServerView, RefinesServer, SameServer}
use Rattle.group_inputs.specs.Handings.{Handing, FrameBytes, OwnInput as TakesOwn, handing}
use Rattle.actor.specs.declared.group_actor.GroupActor.{GroupActor}
use Rattle.actor.specs.declared.group_actor.GroupActor.TheVariants.{Server, Client}
use Rattle.actor.specs.Answers.{nothing_sent, ServerSteps, ServerCrashed, ClientSteps, ClientCrashed}
use Rattle.group_inputs.specs.Events.{server_input, client_input}
use Rattle.event_book.specs.declared.view.EventView.{EventView}
use Rattle.event_book.specs.declared.view.EventView.TheVariants.{Own, Delivery, Crash}
use Rattle.event_book.specs.declared.view.Output.{Output}
use Rattle.cells.specs.declared.own_input.OwnInput.{OwnInput}
use Rattle.cells.specs.declared.own_input.OwnInput.TheVariants as own

-- ---- an actor's own inputs

-- it is an input of a server: this one
abbrev pub IsServerInput : OwnInput → Handing → Type 0
IsServerInput (own.Server input) h = handing input.value ≡ h
IsServerInput (own.Client input) h = ⊥

-- it is an input of a client: this one
abbrev pub IsClientInput : OwnInput → ClientInput → Type 0
IsClientInput (own.Server input) given = ⊥
IsClientInput (own.Client input) given = input.value ≡ given

-- the event that an input is to its actor; one of the other kind of actor is never taken, and a crash
-- stands for it
abbrev pub own_event : Actor → OwnInput → Event
own_event (actors.Server i) (own.Server input) = AtServer i (server_input (handing input.value))
own_event (actors.Server i) (own.Client input) = AtServer i inputs.Crash
own_event (actors.Client c) (own.Server input) = AtClient c agents.Crash
own_event (actors.Client c) (own.Client input) = AtClient c (client_input input.value)

-- ---- what is sent

abbrev pub output_frame : Output → Frame
output_frame o = record { to = o.to; bytes = o.frame }

-- ---- servers

-- A server takes what is handed in; just this is sent, and came for workers.
abbrev pub ServerTurned : ServerView → Handing → List Output → List Work → ServerView → Type 0
ServerTurned old h outputs work new = ServerSteps old h new nothing_sent (record { frames = map output_frame outputs; work = work })

-- an input that is no frame
abbrev pub TakesInput : ServerView → Handing → List Output → List Work → ServerView → Type 0
TakesInput old (FrameBytes bytes) outputs work new = ⊥
TakesInput old (TakesOwn input) outputs work new = ServerTurned old (TakesOwn input) outputs work new

abbrev pub ServerTurns : ServerView → EventView OwnInput → List Output → List Work → ServerView → Type 0
ServerTurns old (Own (own.Server input)) outputs work new = TakesInput old (handing input.value) outputs work new
ServerTurns old (Own (own.Client input)) outputs work new = ⊥
ServerTurns old (Delivery stamp place frame) outputs work new = ServerTurned old (FrameBytes frame) outputs work new
ServerTurns old Crash outputs work new = (outputs ≡ []) × (work ≡ []) × ServerCrashed old new

-- ---- clients

-- A client takes what is handed in, and just this is sent.
abbrev pub ClientTurned : AgentView → ClientInput → List Output → AgentView → Type 0
ClientTurned old given outputs new = ClientSteps old given new [] (map output_frame outputs)

abbrev pub TakesClientInput : AgentView → ClientInput → List Output → AgentView → Type 0
TakesClientInput old (client_inputs.Frame bytes) outputs new = ⊥
TakesClientInput old given outputs new = ClientTurned old given outputs new

abbrev pub ClientTurns : AgentView → EventView OwnInput → List Output → AgentView → Type 0
ClientTurns old (Own (own.Server input)) outputs new = ⊥
ClientTurns old (Own (own.Client input)) outputs new = TakesClientInput old input.value outputs new
ClientTurns old (Delivery stamp place frame) outputs new = ClientTurned old (client_inputs.Frame frame) outputs new
ClientTurns old Crash outputs new = (outputs ≡ []) × ClientCrashed old new

-- ---- both

-- the event leads the actor from the one to the other; this is sent, and that came for workers
abbrev pub ActorTurns : GroupActor → EventView OwnInput → List Output → List Work → GroupActor → Type 0
ActorTurns (Server old) event outputs work (Server new) = ServerTurns old event outputs work new
ActorTurns (Server old) event outputs work (Client new) = ⊥
ActorTurns (Client old) event outputs work (Server new) = ⊥
ActorTurns (Client old) event outputs work (Client new) = (work ≡ []) × ClientTurns old event outputs new

abbrev pub ActorSteps : GroupActor → EventView OwnInput → List Output → GroupActor → Type 0
ActorSteps old event outputs new = (work : List Work) × ActorTurns old event outputs work new

-- the actor before its first input, in a group of n servers
abbrev pub IsNewActor : ℕ → Actor → GroupActor → Type 0
IsNewActor n (actors.Server i) (Server v) = (v.raft.me ≡ i) × (v.raft.size ≡ n) × RefinesServer v newcomer
IsNewActor n (actors.Server i) (Client a) = ⊥
IsNewActor n (actors.Client c) (Server v) = ⊥
IsNewActor n (actors.Client c) (Client a) = (a.size ≡ n) × (a.client ≡ agent_of a.client.node) × (a.client.node.number ≡ c)

-- client k, from 1, has the k-th of these nodes, with k as its number
abbrev pub HasNode : List NodeSpec → Actor → GroupActor → Type 0
HasNode nodes (actors.Server i) actor = Unit {0}
HasNode nodes (actors.Client c) (Server v) = ⊥
HasNode nodes (actors.Client c) (Client a) =
    (k : ℕ) × (spec : NodeSpec)
    × (c ≡ suc k) × (slice_get nodes k ≡ Some spec) × (a.client.node ≡ record spec { number = c })

-- it is this actor of the group of n servers and these nodes' clients that begins
abbrev pub BeginsAs : ℕ → List NodeSpec → Actor → GroupActor → Type 0
BeginsAs n nodes me actor = IsNewActor n me actor × HasNode nodes me actor

-- two values that are one actor
abbrev pub SameActor : GroupActor → GroupActor → Type 0
SameActor (Server old) (Server new) = SameServer old new
SameActor (Server old) (Client new) = ⊥
SameActor (Client old) (Server new) = ⊥
SameActor (Client old) (Client new) = new ≡ old

-- how many servers a group of these actors has: they are numbered from 0
abbrev pub group_size : List Actor → ℕ
group_size [] = 0
group_size (actors.Server i ∷ all) = max (suc i) (group_size all)
group_size (actors.Client c ∷ all) = group_size all
