use Rattle.std.proofs.Common.{List, string_bytes, subst, sym}
use Rattle.rows.specs.declared.job.Job.{Job}
use Rattle.sim_tell.specs.Words.{TellsNew}
use Rattle.sim_tell.specs.Changes.{IsOldJob, job_words}
use Rattle.sim_tell.proofs.changes.push_jobs.Goals as goal

pub loop-row-preserved : goal.loop-row-preserved
loop-row-preserved c = λ after told.
    c.loop-row.invariant after
    (subst (λ (rows : List Job). TellsNew (IsOldJob c.args.old.now) job_words rows (string_bytes c.loop-row.words) after)
    (sym c.in-Some.ensures.steps) (string_bytes c.push_new_job.new.words, c.in_ok-push_new_job.ensures, told))
