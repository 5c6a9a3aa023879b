use Rattle.std.proofs.Common.{List, ℕ, string_bytes}
use Rattle.fsm_tables.specs.Runs.{rows_left}
use Rattle.sim_tell.specs.Words.{TellsNew}
use Rattle.sim_tell.specs.Changes.{IsOldJob, job_words}
use Rattle.sim_tell.proofs.changes.push_jobs.Given as goal

abbrev pub invariant-loop-row : goal.invariant-loop-row
invariant-loop-row l =
    (after : List ℕ) → TellsNew (IsOldJob l.old) job_words (rows_left l.row-iterator) (string_bytes l.words) after
    → TellsNew (IsOldJob l.old) job_words l.new.jobs (string_bytes l.fn.words) after
