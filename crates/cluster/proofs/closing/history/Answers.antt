use Rattle.std.proofs.Common.{map, ◌∙◌}
use Rattle.cells.specs.Rests.{rest_of}
use Rattle.cluster.specs.Inner.Merged.{taken_event_of}
use Rattle.cluster.proofs.Due.{are_due}
use Rattle.cluster.proofs.Whole.{are_closed, are_entries, are_slots, are_within, same_named}
use Rattle.cluster.proofs.closing.history.Goals as goal

pub merged-requires-clause-within : goal.merged-requires-clause-within
merged-requires-clause-within g c =
    let s = c.in_ok-seats.ensures in
    let e = c.close-count.ensures in
    let closed = are_closed g.B.BookId.actors g.B.BookId.nodes e.whole.0 c.args.cells.items c.in_ok-seats.seats.items s.seats e.whole.2 s.led e.apart e.all e.within in
    are_within g.B.BookId.actors g.B.BookId.nodes e.whole.0 c.args.cells.items (map rest_of c.in_ok-seats.rests.items) c.close-count.result closed s.rests e.whole.1

pub merged-requires-clause-full : goal.merged-requires-clause-full
merged-requires-clause-full g c =
    let s = c.in_ok-seats.ensures in
    let e = c.close-count.ensures in
    let closed = are_closed g.B.BookId.actors g.B.BookId.nodes e.whole.0 c.args.cells.items c.in_ok-seats.seats.items s.seats e.whole.2 s.led e.apart e.all e.within in
    (map taken_event_of e.whole.0, are_slots g.B.BookId.actors g.B.BookId.nodes e.whole.0 c.args.cells.items (map rest_of c.in_ok-seats.rests.items) c.close-count.result closed s.rests e.whole.1)

pub number-requires : goal.number-requires
number-requires g c =
    let s = c.in_ok-seats.ensures in
    let e = c.close-count.ensures in
    let closed = are_closed g.B.BookId.actors g.B.BookId.nodes e.whole.0 c.args.cells.items c.in_ok-seats.seats.items s.seats e.whole.2 s.led e.apart e.all e.within in
    let slots = are_slots g.B.BookId.actors g.B.BookId.nodes e.whole.0 c.args.cells.items (map rest_of c.in_ok-seats.rests.items) c.close-count.result closed s.rests e.whole.1 in
    are_due g.B.BookId.actors e.whole.0 _ closed.whole.0 (are_entries e.whole.0 _ _ slots c.in_ok-placed.ensures.events)

pub returns-clause-events : goal.returns-clause-events
returns-clause-events g c =
    let s = c.in_ok-seats.ensures in
    let e = c.close-count.ensures in
    let closed = are_closed g.B.BookId.actors g.B.BookId.nodes e.whole.0 c.args.cells.items c.in_ok-seats.seats.items s.seats e.whole.2 s.led e.apart e.all e.within in
    let slots = are_slots g.B.BookId.actors g.B.BookId.nodes e.whole.0 c.args.cells.items (map rest_of c.in_ok-seats.rests.items) c.close-count.result closed s.rests e.whole.1 in
    (e.whole.0, closed, c.in_ok-number.ensures e.whole.0 (are_entries e.whole.0 _ _ slots c.in_ok-placed.ensures.events))

pub returns-clause-actors : goal.returns-clause-actors
returns-clause-actors g c = c.in_ok-placed.ensures.actors ∙ same_named c.in_ok-seats.rests.items c.args.cells.items c.in_ok-seats.ensures.rests
