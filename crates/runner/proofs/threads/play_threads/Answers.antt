use Rattle.std.proofs.lemmas.Result.{err_from_is_err_and}
use Rattle.runner.proofs.threads.play_threads.Goals as goal

pub returns-in_err-played-clause-past : goal.returns-in_err-played-clause-past
returns-in_err-played-clause-past g c =
    let p = err_from_is_err_and c.from_residual-in_err-played.result c.from_residual-in_err-played.ensures.1 in
    rw (p.1, p.2) c.in_err-played.ensures.past

pub returns-in_err-played-clause-of_run : goal.returns-in_err-played-clause-of_run
returns-in_err-played-clause-of_run g c =
    let p = err_from_is_err_and c.from_residual-in_err-played.result c.from_residual-in_err-played.ensures.1 in
    rw (p.1, p.2) c.in_err-played.ensures.of_run
