use Rattle.std.proofs.Common.{◌≡◌, Bool, true, refl, subst, rules, arith}
use Rattle.std.proofs.lemmas.Bool.{eq-eqb}
use Rattle.fields_model.specs.Format.{Answers}
use Rattle.wire.specs.Messages.{takes_memory}
use Rattle.wire.specs.Frames.{message_at}
use Rattle.wire.proofs.LogFrames.{header_named, refuses_along, fault_of_body}
use Rattle.wire.proofs.reading.read_frame.Goals as goal

pub returns-in_err-body : goal.returns-in_err-body
returns-in_err-body g c =
    let h = c.in_ok-header in
    let named = header_named takes_memory c.args.bytes.now h.header h.at (λ i. omega (arith, c.type_inv.bytes i)) h.ensures.value in
    let told = refuses_along (takes_memory h.header.kind ≡ true) c.in_err-body.field-0.0 _ (message_at g.M.Machine.spec c.args.bytes.now)
    (λ p. fault_of_body g.M.Machine.spec c.args.bytes.now h.header h.at _ c.in_ok-at.at p (λ i. omega (arith, c.type_inv.bytes i)) h.ensures.value c.in_ok-at.ensures) c.in_err-body.ensures.value in
    subst (λ (b : Bool). Answers (b ≡ true) c.from_residual-in_err-body.result (message_at g.M.Machine.spec c.args.bytes.now)) named (search (rules, told))

pub returns : goal.returns
unfolding message_at
returns g c = rw (c.in_ok-header.ensures.value, c.in_ok-at.ensures, c.in_ok-body.ensures.value.0, eq-eqb _ _ c.if-end-bytes.false, c.message_of.ensures, c.in_ok-body.ensures.value.1) refl
