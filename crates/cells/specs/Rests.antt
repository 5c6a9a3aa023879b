-- What is left of cells whose seats are taken out.
use Rattle.std.specs.Prelude.{List, map}
use Rattle.rows.specs.declared.actor.Actor.{Actor}
use Rattle.actor.specs.declared.group_actor.GroupActor.{GroupActor}
use Rattle.cells.specs.declared.cell.StampedEvent.{StampedEvent}
use Rattle.cells.specs.declared.rest.Rest.{Rest}
use Rattle.cells.specs.Cells.{CellView, kept_in}

-- who an actor is, the actor, and the events that it took
pub record RestView : Type 0 where
  pub me : Actor
  pub actor : GroupActor
  pub kept : List StampedEvent

abbrev pub rest_of : Rest → RestView
rest_of r = record { me = r.me; actor = r.actor; kept = r.taken.items }

abbrev pub rest_in : CellView → RestView
rest_in c = record { me = c.seat.actor; actor = c.actor; kept = map kept_in c.seat.notes }
