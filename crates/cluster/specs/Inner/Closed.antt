-- What is known of all cells of a closed book.
use Rattle.std.specs.Prelude.{◌≡◌, true, List, map}
use Rattle.std.specs.List.{AllByRecursion}
use Rattle.rows.specs.declared.actor.Actor.{Actor}
use Rattle.rows.specs.declared.node.NodeSpec.{NodeSpec}
use Rattle.group_model.specs.Worlds.{Event}
use Rattle.event_book.specs.declared.view.Note.{Note}
use Rattle.event_book.specs.Seats.{IsWhole, are_apart, lists_actor}
use Rattle.cells.specs.declared.own_input.OwnInput.{OwnInput}
use Rattle.cluster.specs.declared.closing.NamedActor.{NamedActor}
use Rattle.cells.specs.declared.rest.Rest.{Rest}
use Rattle.cells.specs.Actors.{group_size}
use Rattle.cells.specs.Cells.{CellView, IsOpenedCell}
use Rattle.cells.specs.Groups.{cell_actors, seat_in}
use Rattle.cluster.specs.Closing.{noted_events}

abbrev pub named_of : Rest → NamedActor
named_of r = record { me = r.me; actor = r.actor }

abbrev pub named_in : CellView → NamedActor
named_in c = record { me = c.seat.actor; actor = c.actor }

-- The history is legal, and each cell noted just what its actor noted in it; each actor is where
-- that leads it from its beginning with these nodes. Each of the book's actors has one cell, and no
-- other actor has one.
pub record IsClosed (actors : List Actor) (nodes : List NodeSpec) (log : List (Note OwnInput)) (cells : List CellView) : Type 0 where
  pub whole : IsWhole actors log (map seat_in cells)
  pub led : AllByRecursion (IsOpenedCell (group_size actors) nodes) cells
  pub apart : are_apart (cell_actors cells) ≡ true
  pub all : (a : Actor) → lists_actor actors a ≡ true → lists_actor (cell_actors cells) a ≡ true
  pub within : (a : Actor) → lists_actor (cell_actors cells) a ≡ true → lists_actor actors a ≡ true

-- the events are all that the cells of a closed book noted, in the order of their stamps
abbrev pub AreAllNoted : List Actor → List NodeSpec → List CellView → List Event → Type 0
AreAllNoted actors nodes cells events =
    (log : List (Note OwnInput)) × IsClosed actors nodes log cells × (events ≡ noted_events log log)
