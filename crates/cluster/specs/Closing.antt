-- What is known of a group of cells that is closed.
use Rattle.std.specs.Prelude.{◌≡◌, ℕ, suc, ◌+◌, zero, true, List, [], ◌∷◌, ◌++◌, map, length, slice_get, Some}
use Rattle.std.specs.List.{AllByRecursion}
use Rattle.rows.specs.declared.actor.Actor.{Actor}
use Rattle.rows.specs.declared.actor.Actor.TheVariants as actors
use Rattle.group_model.specs.Inputs as inputs
use Rattle.group_model.specs.Agents as agents
use Rattle.group_model.specs.Servers.{Server}
use Rattle.group_model.specs.Worlds.{Event, Deliver, AtServer, AtClient}
use Rattle.server.specs.ServerViews.{ServerView, RefinesServer}
use Rattle.spec.specs.Spec.{SpecState}
use Rattle.spec.specs.Visible.{Visible, Behavior}
use Rattle.spec.specs.Refinement.{state_shown}
use Rattle.world.specs.GroupView.{GroupView, client_view}
use Rattle.world.specs.GroupShown.{HasShown}
use Rattle.event_book.specs.declared.view.EventView.{EventView}
use Rattle.event_book.specs.declared.view.EventView.TheVariants.{Own, Delivery, Crash}
use Rattle.event_book.specs.declared.view.Note.{Note}
use Rattle.event_book.specs.Seats.{IsWhole, are_apart, lists_actor}
use Rattle.cells.specs.declared.own_input.OwnInput.{OwnInput}
use Rattle.actor.specs.declared.group_actor.GroupActor.{GroupActor}
use Rattle.actor.specs.declared.group_actor.GroupActor.TheVariants as group_actors
use Rattle.cells.specs.Actors.{own_event}
use Rattle.cells.specs.Cells.{CellView}
use Rattle.cells.specs.Groups.{AreOfGroup, cell_actors, seat_in}

-- ---- a history as a list of the group's events

-- how many outputs stand before those of the k-th note
abbrev pub sent_before : List (Note OwnInput) → ℕ → ℕ
sent_before [] k = 0
sent_before (e ∷ es) zero = 0
sent_before (e ∷ es) (suc k) = length e.noted.outputs + sent_before es k

abbrev pub crash_event : Actor → Event
crash_event (actors.Server i) = AtServer i inputs.Crash
crash_event (actors.Client c) = AtClient c agents.Crash

-- the event that an actor's noted event is; a delivery is that of the message at its place among
-- all that were ever sent, by stamp and then by place
abbrev pub noted_event : List (Note OwnInput) → Actor → EventView OwnInput → Event
noted_event log a (Own input) = own_event a input
noted_event log a (Delivery stamp place frame) = Deliver (sent_before log stamp + place)
noted_event log a Crash = crash_event a

-- the events of some notes of a history
abbrev pub noted_events : List (Note OwnInput) → List (Note OwnInput) → List Event
noted_events log [] = []
noted_events log (e ∷ es) = noted_event log e.actor e.noted.event ∷ noted_events log es

-- ---- the world that a group of cells closes to

-- the world has this actor: the same client, or a server that is the same one of the definitions
abbrev pub ShowsActor : GroupView → Actor → GroupActor → Type 0
ShowsActor view (actors.Server i) (group_actors.Server v) =
    (x : ServerView) × (s : Server) × (slice_get view.servers i ≡ Some x) × RefinesServer v s × RefinesServer x s
ShowsActor view (actors.Server i) (group_actors.Client a) = ⊥
ShowsActor view (actors.Client c) (group_actors.Server v) = ⊥
ShowsActor view (actors.Client c) (group_actors.Client a) = client_view view.clients c ≡ Some a

abbrev pub HasCell : GroupView → CellView → Type 0
HasCell view c = ShowsActor view c.seat.actor c.actor

-- The world's trace is all that the cells noted, each event once and in the order of its stamp, and
-- its actors are the cells': each of the book's actors has one cell, and no other actor has one.
pub record ClosesTo (all : List Actor) (cells : List CellView) (view : GroupView) : Type 0 where
  pub log : List (Note OwnInput)
  pub whole : IsWhole all log (map seat_in cells)
  pub trace : view.trace ≡ noted_events log log
  pub actors : AllByRecursion (HasCell view) cells
  pub group : AreOfGroup (length view.servers) (length view.clients) all
  pub each : (a : Actor) → lists_actor all a ≡ true → lists_actor (cell_actors cells) a ≡ true
  pub apart : are_apart (cell_actors cells) ≡ true
  pub within : (a : Actor) → lists_actor (cell_actors cells) a ≡ true → lists_actor all a ≡ true

-- ---- what the cells show

-- At this moment of the specification the actor is seen: of a server the state that it has applied,
-- none while it is down; of a client what it ever started.
abbrev pub IsSeen : Visible → Actor → GroupActor → Type 0
IsSeen now (actors.Server i) (group_actors.Server v) =
    (s : Server) × RefinesServer v s × (slice_get now.states i ≡ Some (state_shown s))
IsSeen now (actors.Server i) (group_actors.Client a) = ⊥
IsSeen now (actors.Client c) (group_actors.Server v) = ⊥
IsSeen now (actors.Client zero) (group_actors.Client a) = ⊥
IsSeen now (actors.Client (suc k)) (group_actors.Client a) =
    slice_get now.started k ≡ Some a.client.started

-- The specification shows so many moments as events were noted, after a first one, and at the last
-- of them each cell's actor is seen as it is. The world has shown just these, and goes on from there.
pub record ShowsAtLast (cells : List CellView) (view : GroupView) : Type 0 where
  pub before : List Visible
  pub now : Visible
  pub last : SpecState
  pub behavior : Behavior (length view.servers) (length view.clients) (before ++ now ∷ []) last
  pub moments : length before ≡ length view.trace
  pub each : AllByRecursion (λ (c : CellView). IsSeen now c.seat.actor c.actor) cells
  pub has : HasShown view (before ++ now ∷ [])
