use Rattle.std.proofs.Common.{◌≡◌, Bool, true, subst, ◌∙◌, rules, arith}
use Rattle.fields_model.specs.Format.{Answers}
use Rattle.wire.specs.Messages.{takes_memory, is_of_log}
use Rattle.wire.specs.Frames.{message_at}
use Rattle.rows.specs.declared.actor.Actor.TheVariants as actors
use Rattle.wire.proofs.LogFrames.{header_named, refuses_along, fault_of_body, between_servers, server_sends, server_receives, log_goes}
use Rattle.wire.proofs.log_message.read_log_frame.Goals as goal

pub read_log_body-requires : goal.read_log_body-requires
read_log_body-requires g c =
    let h = c.in_ok-header in
    header_named is_of_log c.args.bytes.now h.header h.at (λ i. omega (arith, c.type_inv.bytes i)) h.ensures.value ∙ c.requires

pub server_of-requires : goal.server_of-requires
server_of-requires g c =
    let h = c.in_ok-header in
    let log = header_named is_of_log c.args.bytes.now h.header h.at (λ i. omega (arith, c.type_inv.bytes i)) h.ensures.value ∙ c.requires in
    server_sends h.header.from h.header.to (between_servers h.header.kind h.header.from h.header.to log h.ensures.allowed)

pub server_of-requires-2 : goal.server_of-requires-2
server_of-requires-2 g c =
    let h = c.in_ok-header in
    let log = header_named is_of_log c.args.bytes.now h.header h.at (λ i. omega (arith, c.type_inv.bytes i)) h.ensures.value ∙ c.requires in
    server_receives h.header.from h.header.to (between_servers h.header.kind h.header.from h.header.to log h.ensures.allowed)

pub returns-in_err-body-clause-exact : goal.returns-in_err-body-clause-exact
returns-in_err-body-clause-exact g c =
    let h = c.in_ok-header in
    let named = header_named takes_memory c.args.bytes.now h.header h.at (λ i. omega (arith, c.type_inv.bytes i)) h.ensures.value in
    let told = refuses_along (takes_memory h.header.kind ≡ true) c.in_err-body.field-0.0 _ (message_at g.M.Machine.spec c.args.bytes.now)
    (λ p. fault_of_body g.M.Machine.spec c.args.bytes.now h.header h.at _ c.in_ok-at.at p (λ i. omega (arith, c.type_inv.bytes i)) h.ensures.value c.in_ok-at.ensures) c.in_err-body.ensures in
    subst (λ (b : Bool). Answers (b ≡ true) c.from_residual-in_err-body.result (message_at g.M.Machine.spec c.args.bytes.now)) named (search (rules, told))

pub invariant_of-result : goal.invariant_of-result
invariant_of-result g c =
    let h = c.in_ok-header in
    let log = header_named is_of_log c.args.bytes.now h.header h.at (λ i. omega (arith, c.type_inv.bytes i)) h.ensures.value ∙ c.requires in
    rw (c.server_of.ensures, c.server_of-2.ensures) at (between_servers h.header.kind h.header.from h.header.to log h.ensures.allowed)

pub returns-clause-allowed : goal.returns-clause-allowed
returns-clause-allowed g c =
    let h = c.in_ok-header in
    let log = header_named is_of_log c.args.bytes.now h.header h.at (λ i. omega (arith, c.type_inv.bytes i)) h.ensures.value ∙ c.requires in
    let other = rw (c.server_of.ensures, c.server_of-2.ensures) at (between_servers h.header.kind h.header.from h.header.to log h.ensures.allowed) in
    log_goes c.in_ok-body.body (actors.Server c.server_of.result) (actors.Server c.server_of-2.result) ∙ other
