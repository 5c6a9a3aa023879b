use Rattle.std.proofs.Common.{ap, subst, ◌∙◌, arith}
use Rattle.fields_model.specs.Format.{Gives}
use Rattle.wire.specs.Frames.{message_at}
use Rattle.wire.proofs.Framing.{message_only, found_of}
use Rattle.wire.proofs.LogFrames.{gives_of, reason_of}
use Rattle.wire.proofs.log_message.read_log_message.Goals as goal

pub returns-clause-found : goal.returns-clause-found
returns-clause-found g c =
    let spec = g.M.Machine.spec in
    let law = g.met.M.Machine.lawful in
    found_of spec law c.args.bytes.now c.read_log_frame.result (λ i. omega (arith, c.type_inv.bytes i)) (gives_of _ c.read_log_frame.result _ c.read_log_frame.ensures.exact)

pub returns-clause-only : goal.returns-clause-only
returns-clause-only g c =
    let spec = g.M.Machine.spec in
    let law = g.met.M.Machine.lawful in
    λ m fits e. subst (λ f. Gives c.read_log_frame.result f) (ap (message_at spec) e ∙ message_only spec law m fits) (gives_of _ c.read_log_frame.result _ c.read_log_frame.ensures.exact)

pub returns-clause-exact : goal.returns-clause-exact
returns-clause-exact g c = gives_of _ c.read_log_frame.result _ c.read_log_frame.ensures.exact

pub returns-clause-memory : goal.returns-clause-memory
returns-clause-memory g c = reason_of _ c.read_log_frame.result _ c.read_log_frame.ensures.exact
