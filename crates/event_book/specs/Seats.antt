-- What seats and tokens know, and how a call changes it.
use Rattle.std.specs.Prelude.{◌≡◌, ℕ, ◌<◌, List, [], ◌∷◌, ◌++◌, length, Some, slice_get}
use Rattle.std.specs.List.{AllByRecursion}
use Rattle.rows.specs.declared.actor.Actor.{Actor}
use Rattle.event_book.specs.declared.view.EventView.{EventView}
use Rattle.event_book.specs.declared.view.EventView.TheVariants.{Own, Delivery, Crash}
use Rattle.event_book.specs.declared.view.NotedView.{NotedView}
use Rattle.event_book.specs.declared.view.Note.{Note}
use Rattle.event_book.specs.declared.view.MessageTokenView.{MessageTokenView}
use Rattle.event_book.specs.declared.view.SeatView.{SeatView}
use Rattle.event_book.specs.Histories.{notes_of, IsLegal}
pub use Rattle.event_book.specs.Actors.{lists_actor, are_apart}

module _ {I : Type 0} where
  abbrev pub actor_in : SeatView I → Actor
  actor_in seat = seat.actor

  -- the token names this output: its event's stamp, its place there, its receiver and its frame
  abbrev pub Names : MessageTokenView I → ℕ → ℕ → Actor → List ℕ → Type 0
  Names token stamp place to frame =
      (token.note.stamp ≡ stamp) × (token.place ≡ place)
      × (slice_get token.note.noted.outputs token.place ≡ Some (record { to = to; frame = frame }))

  -- a delivery may be noted of an output whose token was taken in, and whose receiver is the seat's
  -- actor; all else always
  abbrev pub MayNote : SeatView I → EventView I → Type 0
  MayNote seat (Own input) = Unit {0}
  MayNote seat (Delivery stamp place frame) =
      (k : ℕ) × (token : MessageTokenView I)
      × (slice_get seat.taken k ≡ Some token) × Names token stamp place seat.actor frame
  MayNote seat Crash = Unit {0}

  -- a seat that noted nothing
  abbrev pub new_seat : Actor → SeatView I
  new_seat actor = record { actor = actor; notes = []; taken = [] }

  -- the seat after it noted this under this stamp
  abbrev pub with_note : NotedView I → ℕ → SeatView I → SeatView I
  with_note noted stamp seat =
      let note : Note I = record { stamp = stamp; actor = seat.actor; noted = noted } in
      record seat { notes = seat.notes ++ note ∷ [] }

  -- the seat after it took these tokens in
  abbrev pub with_taken : List (MessageTokenView I) → SeatView I → SeatView I
  with_taken tokens seat = record seat { taken = seat.taken ++ tokens }

  -- the last note has an output at this place
  abbrev pub HasOutput : ℕ → List (Note I) → Type 0
  HasOutput place [] = ⊥
  HasOutput place (note ∷ []) = place < length note.noted.outputs
  HasOutput place (note ∷ next ∷ notes) = HasOutput place (next ∷ notes)

  -- the token of an output of the last note, if there is one
  abbrev pub last_token : ℕ → List (Note I) → List (MessageTokenView I)
  last_token place [] = []
  last_token place (note ∷ []) = record { note = note; place = place } ∷ []
  last_token place (note ∷ next ∷ notes) = last_token place (next ∷ notes)

  -- the history is legal, and what each of the seats noted is what its actor noted in it
  abbrev pub IsWhole : List Actor → List (Note I) → List (SeatView I) → Type 0
  IsWhole actors log seats =
      IsLegal actors log
      × AllByRecursion (λ (seat : SeatView I). seat.notes ≡ notes_of seat.actor log) seats
