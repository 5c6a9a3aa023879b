use Rattle.std.proofs.Common.{◌∙◌, subst}
use Rattle.std.specs.Prelude.{IfErr, IfOk}
use Rattle.event_book.specs.Noted.{event_view}
use Rattle.cells.specs.Actors.{group_size}
use Rattle.cells.specs.Cells.{CellView, EnvelopeView, IsEnvelopeRefused, Turned, tokens_of}
use Rattle.cells.proofs.Turns.{cell_kept, cell_refused, cell_turned}
use Rattle.cells.proofs.cell.Cell.take.Goals as goal

pub invariant_of-self-2 : goal.invariant_of-self-2
invariant_of-self-2 g c =
    let i = c.self.inside in
    let old : CellView = record { actor = i.actor; seat = i.seat } in
    let given : EnvelopeView = record { receiver = c.envelope.inside.receiver; event = event_view c.envelope.inside.event; tokens = tokens_of c.envelope.inside.token } in
    let kept = c.step.ensures.kept (c.in_ok-reserve.ensures.items ∙ c.self.invariant.1) in
    cell_kept (group_size g.B.BookId.actors) g.B.BookId.nodes i.me old given c.step.result (λ turn. turn.work) (λ turn. turn.sent.items) (λ turn. turn.unsent) c.step.new.actor c.step.new.seat i.taken.items c.step.new.taken.items c.self.invariant c.if-not-is_for.ensures c.if-not-can_note.ensures c.step.ensures.ok c.step.ensures.err kept

pub returns-clause-ok : goal.returns-clause-ok
returns-clause-ok g c =
    let i = c.self.inside in
    let old : CellView = record { actor = i.actor; seat = i.seat } in
    let given : EnvelopeView = record { receiver = c.envelope.inside.receiver; event = event_view c.envelope.inside.event; tokens = tokens_of c.envelope.inside.token } in
    let new : CellView = record { actor = c.step.new.actor; seat = c.step.new.seat } in
    let t = cell_turned i.me old given c.step.result (λ turn. turn.work) (λ turn. turn.sent.items) (λ turn. turn.unsent) c.step.new.actor c.step.new.seat c.self.invariant.0 c.if-not-is_for.ensures c.if-not-can_note.ensures c.step.ensures.ok in
    subst (λ (x : CellView). IfOk c.step.result (λ turn. Turned x c.args.envelope new turn.work turn.sent.items turn.unsent)) c.self.view_is
    (subst (λ (x : EnvelopeView). IfOk c.step.result (λ turn. Turned old x new turn.work turn.sent.items turn.unsent)) c.envelope.view_is t)

pub returns-clause-refused : goal.returns-clause-refused
returns-clause-refused g c =
    let i = c.self.inside in
    let old : CellView = record { actor = i.actor; seat = i.seat } in
    let given : EnvelopeView = record { receiver = c.envelope.inside.receiver; event = event_view c.envelope.inside.event; tokens = tokens_of c.envelope.inside.token } in
    let t = cell_refused i.me old given c.step.result c.step.new.actor c.step.new.seat c.self.invariant.0 c.if-not-takes_up.ensures c.if-not-is_for.ensures c.if-not-can_note.ensures c.step.ensures.err in
    subst (λ (x : CellView). IfErr c.step.result (λ cause. IsEnvelopeRefused x c.args.envelope cause)) c.self.view_is
    (subst (λ (x : EnvelopeView). IfErr c.step.result (λ cause. IsEnvelopeRefused old x cause)) c.envelope.view_is t)
