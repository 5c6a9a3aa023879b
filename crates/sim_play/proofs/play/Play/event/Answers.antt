use Rattle.std.proofs.Common.{refl}
use Rattle.std.proofs.lemmas.Result.{err_from_is_err_and}
use Rattle.sim_play.proofs.play.Play.event.Goals as goal

pub returns-in_err-step-clause-refused : goal.returns-in_err-step-clause-refused
returns-in_err-step-clause-refused c =
    let p = err_from_is_err_and c.from_residual.result c.from_residual.ensures.1 in
    let says = c.in_err-step.ensures in
    rw (p.1, p.2) (λ other. record { reason = other; cause = says.cause other; group = says.err; rest = refl })
