-- Evaluations of a job, put anew.
use Rattle.std.specs.Prelude.{Bool, Some, List, [], ◌∷◌}
use Rattle.rows.specs.declared.job.Job.{Job}
use Rattle.rows.specs.Keys.{eval_cmp}
use Rattle.fsm_tables.specs.Rows.{has_row, put}
use Rattle.group_model.specs.Blocked.{BlockedEval, blocked_id, classes_of}

-- the same evaluation, with the classes that the job asks for
abbrev pub anew_of : Job → BlockedEval → BlockedEval
anew_of j b = record { row = b.row; classes = classes_of (Some j) }

-- one of its id is among the rows
abbrev pub is_held : List BlockedEval → BlockedEval → Bool
is_held rows b = has_row eval_cmp blocked_id b.row.id rows

-- one after the other, the last one first
abbrev pub put_all : List BlockedEval → List BlockedEval → List BlockedEval
put_all [] rows = rows
put_all (b ∷ anew) rows = put eval_cmp blocked_id b (put_all anew rows)
