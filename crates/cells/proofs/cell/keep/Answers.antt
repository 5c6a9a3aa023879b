use Rattle.event_book.specs.Noted.{event_view}
use Rattle.cells.specs.Cells.{tokens_of}
use Rattle.cells.specs.declared.cell.StampedEvent.{StampedEvent}
use Rattle.cells.proofs.Sending.{may_note, kept_more}
use Rattle.cells.proofs.cell.keep.Goals as goal

pub note-requires : goal.note-requires
note-requires g c = may_note c.args.seat.now c.take_in.new.seat (event_view c.args.done.event) (tokens_of c.args.done.token) c.take_in.ensures c.requires.addressed

pub returns-clause-kept : goal.returns-clause-kept
returns-clause-kept g c same =
    let e : StampedEvent = record { stamp = c.in-Ok.stamp; event = c.kept-event.result; sent = c.len-sent.result } in
    kept_more c.args.seat.now c.take_in.new.seat c.note.new.self c.envelopes.new.seat c.args.taken.now.items c.push_reserved.new.self.items e (tokens_of c.args.done.token) (event_view c.args.done.event) c.args.done.frames c.in-Ok.stamp
    c.take_in.ensures c.in-Ok.ensures.ok c.envelopes.ensures.same c.push_reserved.ensures.items (λ i. record { stamp = c.in-Ok.stamp; event = c.kept-event.ensures i; sent = c.len-sent.ensures i }) same
