use Rattle.std.proofs.Common.{◌≡◌, Some, sym, ap, ◌∙◌}
use Rattle.std.specs.Prelude.{slice_get}
use Rattle.event_book.specs.declared.view.SeatView.{SeatView}
use Rattle.cells.specs.declared.own_input.OwnInput.{OwnInput}
use Rattle.cells.specs.Inner.Sending.{last_envelopes}
use Rattle.cells.proofs.Sending.{one_envelope_more}
use Rattle.cells.proofs.cell.envelopes.Goals as goal

pub loop-place-preserved : goal.loop-place-preserved
loop-place-preserved g c =
    let at = c.loop-place in
    let there : slice_get (last_envelopes c.args.seat.now.notes) at.place ≡ Some c.in-Ok.next = ap (λ (s : SeatView OwnInput). slice_get (last_envelopes s.notes) at.place) (sym at.invariant.0) ∙ c.in-Ok.ensures.envelope in
    (c.in-Ok.ensures.same ∙ at.invariant.0, one_envelope_more (last_envelopes c.args.seat.now.notes) c.reserve.new.self.items c.push_reserved.new.self.items at.place c.in-Ok.next (c.reserve.ensures.items ∙ at.invariant.1) c.push_reserved.ensures.items there)
