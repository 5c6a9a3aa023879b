-- The views of the book's table: what a seat, a token and joined seats know, and how moves change
-- it.
use Rattle.std.specs.Prelude.{◌≡◌, ℕ, List, [], ◌∷◌, ◌++◌, map}
use Rattle.atomic_table.specs.Seated.{TableId}
use Rattle.atomic_table.specs.Table.{Me}
use Rattle.rows.specs.declared.actor.Actor.{Actor}
use Rattle.rows.specs.declared.actor.Actor.TheVariants.{Server}
use Rattle.event_book.specs.declared.view.EventView.TheVariants.{Crash}
use Rattle.event_book.specs.declared.view.NotedView.{NotedView}
use Rattle.event_book.specs.declared.view.MessageTokenView.{MessageTokenView}
use Rattle.event_book.specs.declared.view.SeatView.{SeatView}
use Rattle.event_book.specs.declared.view.BookView.{BookView}
use Rattle.event_book.specs.Seats.{new_seat, with_taken, last_token}

-- the name of no table
abbrev pub no_table : TableId
no_table =
    record { words = 0; slots = 0; views_name = 0; atom = 0; block = 0; offset = 0; slot_names = [] }

-- what a holder of the table knows, and the slots that it holds, of which there are none
abbrev pub HolderView : Type 0 → Type 0
HolderView I = Me (Unit {0}) (BookView I)

module _ {I : Type 0} where
  abbrev pub nothing_noted : NotedView I
  nothing_noted = record { event = Crash; outputs = [] }

  abbrev pub opening_view : List Actor → BookView I
  opening_view actors = record { seats = map new_seat actors; tokens = [] }

  abbrev pub spent_view : BookView I
  spent_view = record { seats = []; tokens = [] }

  abbrev pub seat_view : SeatView I → BookView I
  seat_view seat = record { seats = seat ∷ []; tokens = [] }

  abbrev pub token_view : MessageTokenView I → BookView I
  token_view token = record { seats = []; tokens = token ∷ [] }

  -- the seat that a view is of, and the token: any at a view of none
  abbrev pub first_seat : List (SeatView I) → SeatView I
  first_seat [] = new_seat (Server 0)
  first_seat (seat ∷ seats) = seat

  abbrev pub only_seat : BookView I → SeatView I
  only_seat view = first_seat view.seats

  abbrev pub first_token : List (MessageTokenView I) → MessageTokenView I
  first_token [] =
      record { note = record { stamp = 0; actor = Server 0; noted = nothing_noted }; place = 0 }
  first_token (token ∷ tokens) = token

  abbrev pub token_in : BookView I → MessageTokenView I
  token_in view = first_token view.tokens

  -- what the holder of a seat knows, and that of a token
  abbrev pub IsSeat : HolderView I → Type 0
  IsSeat me = me ≡ (seat_view (only_seat me.0), [])

  abbrev pub IsMessageToken : HolderView I → Type 0
  IsMessageToken me = me ≡ (token_view (token_in me.0), [])

  -- a token of an output of the last note
  abbrev pub seat_tokens : ℕ → List (SeatView I) → List (MessageTokenView I)
  seat_tokens place [] = []
  seat_tokens place (seat ∷ seats) = last_token place seat.notes

  abbrev pub last_token_view : ℕ → BookView I → BookView I
  last_token_view place view = record { seats = []; tokens = seat_tokens place view.seats }

  -- a seat after it took a token in
  abbrev pub taken_in : BookView I → BookView I → BookView I
  taken_in view other = record view { seats = map (with_taken other.tokens) view.seats }

  -- two seats in one
  abbrev pub joined : BookView I → BookView I → BookView I
  joined view other =
      record { seats = view.seats ++ other.seats; tokens = view.tokens ++ other.tokens }

  -- the opening seat hands out its first seat
  abbrev pub first_alone : List (SeatView I) → List (SeatView I)
  first_alone [] = []
  first_alone (seat ∷ seats) = seat ∷ []

  abbrev pub others_of : List (SeatView I) → List (SeatView I)
  others_of [] = []
  others_of (seat ∷ seats) = seats

  abbrev pub handed_view : BookView I → BookView I
  handed_view view = record { seats = first_alone view.seats; tokens = [] }

  abbrev pub rest_view : BookView I → BookView I
  rest_view view = record view { seats = others_of view.seats }
