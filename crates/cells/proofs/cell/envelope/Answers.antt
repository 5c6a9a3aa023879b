use Rattle.std.proofs.Common.{◌≡◌, Some, ◌∷◌, [], ◌++◌, refl, sym, ap, ◌∙◌}
use Rattle.event_book.specs.declared.view.EventView.TheVariants.{Delivery}
use Rattle.cells.proofs.Sending.{has_output, names_output, is_envelope}
use Rattle.cells.proofs.cell.envelope.Goals as goal

pub token-token-requires : goal.token-token-requires
token-token-requires g c = has_output c.args.seat.now.notes c.args.stamp c.args.place c.args.frames.now c.in-Some.found c.requires.last (sym c.get.ensures ∙ c.in-Some.is)

pub invariant_of-result : goal.invariant_of-result
invariant_of-result g c =
    let there = sym c.get.ensures ∙ c.in-Some.is in
    let copied : c.extend_from_slice.new.self.items ≡ c.in-Some.found.bytes = c.in_ok-extend_from_slice.ensures.items ∙ ap (λ l. l ++ c.bytes.result.now) c.new-frame.ensures.items ∙ c.bytes.ensures in
    let t = c.token-token.result in
    let n = names_output c.args.seat.now.notes c.args.stamp c.args.place c.args.frames.now c.in-Some.found c.requires.last there t c.token-token.ensures.names in
    (t, refl, rw (c.to.ensures, copied) n)

pub returns-clause-envelope : goal.returns-clause-envelope
returns-clause-envelope g c =
    let there = sym c.get.ensures ∙ c.in-Some.is in
    let copied : c.extend_from_slice.new.self.items ≡ c.in-Some.found.bytes = c.in_ok-extend_from_slice.ensures.items ∙ ap (λ l. l ++ c.bytes.result.now) c.new-frame.ensures.items ∙ c.bytes.ensures in
    let t = c.token-token.result in
    is_envelope c.args.seat.now.notes c.args.stamp c.args.place c.args.frames.now c.in-Some.found c.requires.last there t c.token-token.ensures.names
    ∙ (λ i. Some (record { receiver = sym c.to.ensures i; event = Delivery c.args.stamp c.args.place (sym copied i); tokens = t ∷ [] }))
