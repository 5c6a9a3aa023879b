use Rattle.std.proofs.Common.{◌∙◌, ◌++◌, ap, drop}
use Rattle.std.proofs.Math.Seq.{drop-append_seam}
use Rattle.sim_recovery.proofs.recovering.taken_behind.Goals as goal

pub returns : goal.returns
returns c taken came =
    c.rest_of.ensures
    ∙ ap (drop c.args.before) (c.trace.ensures.value ∙ came.trace)
    ∙ ap (λ n. drop n (came.old ++ taken)) came.count
    ∙ drop-append_seam came.old taken
