use Rattle.std.proofs.Common.{Err, ◌≡◌, rules}
use Rattle.sim_files.proofs.Reasons.{past_reading}
use Rattle.sim_files.proofs.running.play_steps.Goals as goal

pub returns-in_err-steps-clause-past : goal.returns-in_err-steps-clause-past
returns-in_err-steps-clause-past g c =
    let same : c.from_residual.result ≡ Err c.in_err-steps.field-0.0 = search rules in
    rw same (λ good. past_reading _ c.in_err-steps.field-0.0 good c.in_err-steps.ensures.fault)
