-- What a seat may note after it took a token in. Callers cite it.
use Rattle.std.proofs.Common.{◌≡◌, ℕ, List, [], ◌∷◌, length, refl, sym, subst}
use Rattle.event_book.specs.declared.view.EventView.TheVariants.{Delivery}
use Rattle.event_book.specs.declared.view.MessageTokenView.{MessageTokenView}
use Rattle.event_book.specs.declared.view.SeatView.{SeatView}
use Rattle.event_book.specs.Seats.{Names, MayNote, with_taken}
use Rattle.event_book.proofs.Logs.{got_last}

module _ {I : Type 0} where
  -- the delivery that the token names, where the seat's actor is the receiver
  pub may_after : (old new : SeatView I) (token : MessageTokenView I) (stamp place : ℕ) (frame : List ℕ) → new ≡ with_taken (token ∷ []) old → Names token stamp place old.actor frame → MayNote new (Delivery stamp place frame)
  may_after old new token stamp place frame is names =
      subst (λ (seat : SeatView I). MayNote seat (Delivery stamp place frame)) (sym is) (length old.taken, token, got_last old.taken [] token (length old.taken) refl, names)
