use Rattle.std.proofs.Common.{◌≡◌, ap, map, rules, ◌∙◌}
use Rattle.event_book.specs.Seats.{actor_in}
use Rattle.cells.specs.declared.own_input.OwnInput.{OwnInput}
use Rattle.cells.specs.Groups.{seat_in}
use Rattle.runner.proofs.Seats.{actors_of_seats, seats_of_new}
use Rattle.runner.proofs.threads.group.Goals as goal

pub returns-clause-actors : goal.returns-clause-actors
returns-clause-actors g c =
    let cells = c.in_ok-cells.cells.items in
    let seats = seats_of_new c.from-size.result c.as_slice.result.now cells c.in_ok-book.seats.items c.in_ok-cells.ensures.new in
    let all : map actor_in (map seat_in cells) ≡ g.B.BookId.actors = ap (map actor_in) seats ∙ ap (map actor_in) c.in_ok-book.ensures ∙ actors_of_seats OwnInput g.B.BookId.actors in
    let named = c.in_ok-cells-2.ensures.actors ∙ all in
    search rules
