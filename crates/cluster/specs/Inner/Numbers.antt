-- Events as those of the group, where how many outputs each had is known.
use Rattle.std.specs.Prelude.{◌≡◌, ℕ, zero, suc, ◌+◌, ◌<◌, Some, List, [], ◌∷◌, length, map, slice_get, slice_index}
use Rattle.rows.specs.declared.actor.Actor.{Actor}
use Rattle.group_model.specs.Worlds.{Event, Deliver}
use Rattle.group_inputs.specs.declared.event.Event.{Event as GroupEvent}
use Rattle.group_inputs.specs.Events.{group_event, group_events}
use Rattle.event_book.specs.declared.view.Note.{Note}
use Rattle.cells.specs.declared.own_input.OwnInput.{OwnInput}
use Rattle.cells.specs.declared.cell.KeptEvent.{KeptEvent}
use Rattle.cells.specs.declared.cell.KeptEvent.TheVariants.{Own, Delivery, Crash}
use Rattle.cluster.specs.declared.merging.TracedEvent.{TracedEvent}
use Rattle.cluster.specs.Closing.{crash_event, noted_events}
use Rattle.cells.specs.Actors.{own_event}
use Rattle.cluster.specs.Inner.Merged.{TakenEvent, taken_event_in, taken_event_of}

-- how many outputs stand before those of the k-th event
abbrev pub outputs_before : List TakenEvent → ℕ → ℕ
outputs_before xs zero = 0
outputs_before [] (suc k) = 0
outputs_before (x ∷ xs) (suc k) = x.sent + outputs_before xs k

-- these are the numbers of outputs before those of the first events
abbrev pub AreOffsets : List TakenEvent → List ℕ → Type 0
AreOffsets log offsets = (k n : ℕ) → slice_get offsets k ≡ Some n → n ≡ outputs_before log k

-- the event is what this makes of any history that has these offsets
abbrev pub FitsOffsets : List ℕ → (List TakenEvent → Event) → GroupEvent → Type 0
FitsOffsets offsets made e = (log : List TakenEvent) → AreOffsets log offsets → group_event e ≡ made log

abbrev pub delivered_event : ℕ → ℕ → List TakenEvent → Event
delivered_event stamp place log = Deliver (outputs_before log stamp + place)

abbrev pub entry_event : Actor → KeptEvent → List TakenEvent → Event
entry_event actor (Own input) log = own_event actor input
entry_event actor (Delivery stamp place) log = delivered_event stamp place log
entry_event actor Crash log = crash_event actor

abbrev pub entry_events : List TakenEvent → List TakenEvent → List Event
entry_events log xs = map (λ x. entry_event x.actor x.event log) xs

-- the events are those of any history of which these are the events
abbrev pub AreEventsOf : List TracedEvent → List GroupEvent → Type 0
AreEventsOf merged events =
    (log : List (Note OwnInput)) → map taken_event_in merged ≡ map taken_event_of log
    → group_events events ≡ noted_events log log

-- the first events of a history are made into these; so many outputs come before those of each of
-- them, and so many before the next event's
pub record NumberedSoFar (log done : List TakenEvent) (made : List GroupEvent) (before : List ℕ) (sum : ℕ) : Type 0 where
  pub events : group_events made ≡ entry_events log done
  pub size : length before ≡ length done
  pub offsets : AreOffsets log before
  pub total : sum ≡ outputs_before log (length done)

-- of an event at this place among these: a delivery is of an output of one that stands before it
abbrev pub IsDue : List TakenEvent → ℕ → KeptEvent → Type 0
IsDue all k (Own input) = Unit {0}
IsDue all k (Delivery stamp place) =
    (stamp < k) × (sender : TakenEvent) × (slice_get all stamp ≡ Some sender) × (place < sender.sent)
IsDue all k Crash = Unit {0}

abbrev pub AreDue : List TakenEvent → Type 0
AreDue all = (k : ℕ) (x : TakenEvent) → slice_get all k ≡ Some x → IsDue all k x.event

-- a delivery is of one of the outputs so far, of which so many come before those of each event
abbrev pub FallsWithin : List ℕ → ℕ → KeptEvent → Type 0
FallsWithin offsets total (Own input) = Unit {0}
FallsWithin offsets total (Delivery stamp place) =
    (stamp < length offsets) × (slice_index offsets stamp + place < total)
FallsWithin offsets total Crash = Unit {0}

abbrev pub IsNoDelivery : KeptEvent → Type 0
IsNoDelivery (Own input) = Unit {0}
IsNoDelivery (Delivery stamp place) = ⊥
IsNoDelivery Crash = Unit {0}
