-- What was not there before a change is not there after it.
use Rattle.std.proofs.Common.{◌≡◌, ℕ, List, None, ap, ◌∙◌}
use Rattle.std.specs.Prelude.{Result, Ok, Err, OnErr}
use Rattle.rows.specs.declared.job.Job.{Job}
use Rattle.rows.specs.Keys.{name_cmp, job_name}
use Rattle.rows.specs.Limits.{most_jobs}
use Rattle.fsm_tables.specs.Rows.{row_of}
use Rattle.fsm_model.specs.Words.{State, job_of}
use Rattle.fsm_state.specs.Inner.Steps.{put_changed, job_changed}

pub on_err : {A E : Type 0} (r : Result A E) (P Q : Type 0) → (P → Q) → OnErr r P → OnErr r Q
on_err (Ok x) P Q f h = tt
on_err (Err e) P Q f h = f h

-- a change of a job that is not there makes none
pub none_changed : (f : Job → Job) (name : List ℕ) (s : State) → job_of name s ≡ None → job_of name (job_changed f name s) ≡ None
none_changed f name s none = ap (λ r. row_of name_cmp job_name name (put_changed name_cmp job_name most_jobs f r s.jobs)) none ∙ none
