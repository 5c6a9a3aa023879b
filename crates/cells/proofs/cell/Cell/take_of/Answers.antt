use Rattle.std.proofs.Common.{◌≡◌, sym, ap, ◌∙◌}
use Rattle.cells.specs.Actors.{group_size}
use Rattle.cells.specs.Cells.{CellView}
use Rattle.cells.proofs.Turns.{refused_as, sent_by, took_turn}
use Rattle.cells.proofs.cell.Cell.take_of.Goals as goal

pub returns-then-is_for-clause-ok : goal.returns-then-is_for-clause-ok
returns-then-is_for-clause-ok g c =
    took_turn (group_size g.B.BookId.actors) c.args.self.now c.args.envelope c.take.result (λ turn. turn.work) (λ turn. turn.sent.items) (λ turn. turn.unsent) c.take.new.self c.actor.ensures.led c.take.ensures.ok

pub returns-then-is_for-clause-sent : goal.returns-then-is_for-clause-sent
returns-then-is_for-clause-sent g c =
    sent_by c.args.self.now c.args.envelope c.take.result (λ turn. turn.work) (λ turn. turn.sent.items) (λ turn. turn.unsent) c.take.new.self c.take.ensures.ok

pub returns-then-is_for-clause-refused : goal.returns-then-is_for-clause-refused
returns-then-is_for-clause-refused g c =
    let mine : c.args.self.now.seat.actor ≡ c.args.actor =
    sym (ap (λ (x : CellView). x.seat.actor) c.self.view_is) ∙ sym c.self.invariant.0 ∙ sym c.if-is_for.ensures in
    refused_as (group_size g.B.BookId.actors) c.args.actor c.args.self.now c.args.envelope c.take.result c.actor.ensures.led mine c.take.ensures.refused
