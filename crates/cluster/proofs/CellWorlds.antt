-- A group as its actors are in their cells: which are there, and what they sent.
use Rattle.std.proofs.Common.{◌≡◌, ℕ, List, ◌++◌, Option, Some}
use Rattle.std.specs.Prelude.{slice_get, if◌then◌else◌}
use Rattle.rows.specs.declared.actor.Actor.{Actor}
use Rattle.group_model.specs.Worlds.{Event, Deliver}
use Rattle.event_book.specs.Actors.{same_actor}
use Rattle.event_book.specs.declared.view.EventView.{EventView}
use Rattle.event_book.specs.declared.view.EventView.TheVariants.{Own, Delivery, Crash}
use Rattle.event_book.specs.declared.view.Output.{Output}
use Rattle.cells.specs.declared.own_input.OwnInput.{OwnInput}
use Rattle.actor.specs.declared.group_actor.GroupActor.{GroupActor}
use Rattle.cells.specs.Actors.{ActorSteps}
use Rattle.cells.specs.Actors.{own_event}
use Rattle.cluster.specs.Closing.{crash_event}
pub use Rattle.cluster.specs.Inner.Runs.{Runs}

-- the actors that are there, and all outputs that were ever sent
pub record CellWorld : Type 0 where
  pub at : Actor → Option GroupActor
  pub sent : List Output

-- actor a is t now, and sent these outputs
abbrev pub put : CellWorld → Actor → GroupActor → List Output → CellWorld
put w a t outputs =
    record { at = λ b. if same_actor b a then Some t else w.at b; sent = w.sent ++ outputs }

-- the event of the group that the actor's noted event is, among these outputs that were sent
abbrev pub Brings : List Output → Actor → EventView OwnInput → Event → Type 0
Brings sent a (Own input) e = e ≡ own_event a input
Brings sent a (Delivery stamp place frame) e =
    (k : ℕ) × (e ≡ Deliver k) × (slice_get sent k ≡ Some (record { to = a; frame = frame }))
Brings sent a Crash e = e ≡ crash_event a

-- an event is that an actor that is there takes a step, and the event is its own
pub record Happened (w : CellWorld) (e : Event) (v : CellWorld) : Type 0 where
  pub actor : Actor
  pub old : GroupActor
  pub new : GroupActor
  pub event : EventView OwnInput
  pub outputs : List Output
  pub here : w.at actor ≡ Some old
  pub brings : Brings w.sent actor event e
  pub step : ActorSteps old event outputs new
  pub after : v ≡ put w actor new outputs
