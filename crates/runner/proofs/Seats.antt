-- The actors of a group, and of new seats.
use Rattle.std.proofs.Common.{◌≡◌, ◌∙◌, ◌+◌, ◌<◌, ◌++◌, ℕ, suc, ◌∷◌, List, [], ap, append_assoc, arith, get_or, length, map, refl, sym, take}
use Rattle.std.proofs.lemmas.List.{map-append, take_more}
use Rattle.rows.specs.declared.actor.Actor.{Actor}
use Rattle.rows.specs.declared.actor.Actor.TheVariants.{Client, Server}
use Rattle.rows.specs.declared.node.NodeSpec.{NodeSpec}
use Rattle.event_book.specs.declared.view.SeatView.{SeatView}
use Rattle.cells.specs.declared.own_input.OwnInput.{OwnInput}
use Rattle.cells.specs.Cells.{CellView}
use Rattle.cells.specs.Groups.{seat_in}
use Rattle.cells.specs.Opening.{AreNew}
use Rattle.event_book.specs.Seats.{actor_in, new_seat}
use Rattle.runner.specs.Inner.Actors.{actors_of, first_servers}

pub actors_of_seats : (I : Type 0) (actors : List Actor) → map (actor_in {I = I}) (map new_seat actors) ≡ actors
actors_of_seats I [] = refl
actors_of_seats I (a ∷ rest) = ap (λ l. a ∷ l) (actors_of_seats I rest)

-- new cells have the seats for which they were made
pub seats_of_new : (n : ℕ) (nodes : List NodeSpec) (cells : List CellView) (seats : List (SeatView OwnInput)) → AreNew n nodes cells seats → map seat_in cells ≡ seats
seats_of_new n nodes [] [] new = refl
seats_of_new n nodes [] (s ∷ ss) new = absurd new
seats_of_new n nodes (c ∷ cs) [] new = absurd new
seats_of_new n nodes (c ∷ cs) (s ∷ ss) new = let rest = seats_of_new n nodes cs ss new.1 in λ i. new.0.seat_is i ∷ rest i

-- one server more
pub one_server_more : (k : ℕ) → first_servers (k + 1) ≡ first_servers k ++ Server k ∷ []
one_server_more k = let next : k + 1 ≡ suc k = omega arith in rw next refl

-- one client more
pub one_client_more : (n i : ℕ) (nodes : List NodeSpec) (node : NodeSpec) → i < length nodes → node ≡ get_or nodes i node
    → actors_of n (take (i + 1) nodes) ≡ actors_of n (take i nodes) ++ Client node.number ∷ []
one_client_more n i nodes node inside at =
    let client : NodeSpec → Actor = λ x. Client x.number in
    let taken : take (i + 1) nodes ≡ take i nodes ++ node ∷ [] = take_more nodes i node inside ∙ ap (λ x. take i nodes ++ x ∷ []) (sym at) in
    rw (taken, map-append client (take i nodes) (node ∷ [])) (sym (append_assoc (first_servers n) (map client (take i nodes)) (Client node.number ∷ [])))
