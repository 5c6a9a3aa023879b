-- What the program's values of events and outputs say.
use Rattle.std.specs.Prelude.{ℕ, List, map}
use Rattle.std.specs.declared.vec.Vec.{Vec}
use Rattle.std.specs.declared.alloc.Global.{Global}
use Rattle.rows.specs.declared.actor.Actor.{Actor}
use Rattle.event_book.specs.declared.view.EventView.{EventView}
use Rattle.event_book.specs.declared.view.EventView.TheVariants as views
use Rattle.event_book.specs.declared.view.NotedView.{NotedView}
use Rattle.event_book.specs.declared.view.Output.{Output}
use Rattle.event_book.specs.declared.noted.ActorEvent.{ActorEvent}
use Rattle.event_book.specs.declared.noted.ActorEvent.TheVariants.{Own, Delivery, Crash}
use Rattle.event_book.specs.declared.noted.Noted.{Noted}

abbrev pub list_outputs : List (Actor × Vec ℕ Global) → List Output
list_outputs outputs = map (λ o. record { to = o.0; frame = o.1.items }) outputs

module _ {I : Type 0} where
  abbrev pub event_view : ActorEvent I → EventView I
  event_view (Own input) = views.Own input
  event_view (Delivery stamp place frame) = views.Delivery stamp place frame.items
  event_view Crash = views.Crash

  -- with what its outputs list
  abbrev pub noted_view : {O : Type 0} → (O → List Output) → Noted I O → NotedView I
  noted_view listed noted = record { event = event_view noted.event; outputs = listed noted.outputs }
