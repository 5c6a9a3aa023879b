-- What a change of an evaluation's status sets, and what a worker's outcome changes it to.
use Rattle.std.specs.Prelude.{ℕ}
use Rattle.rows.specs.declared.evaluation.EvalStatus.{EvalStatus}
use Rattle.rows.specs.declared.evaluation.EvalStatus.TheVariants as statuses
use Rattle.rows.specs.declared.command.StatusChange.{StatusChange}
use Rattle.rows.specs.declared.command.StatusChange.TheVariants as changes
use Rattle.rows.specs.declared.worker.EvalOutcome.{EvalOutcome}
use Rattle.rows.specs.declared.worker.EvalOutcome.TheVariants as outcomes

abbrev pub status_of : StatusChange → EvalStatus
status_of changes.Pending = statuses.Pending
status_of (changes.Blocked snapshot) = statuses.Blocked
status_of changes.Complete = statuses.Complete
status_of changes.Failed = statuses.Failed

-- 0 unless blocked
abbrev pub snapshot_of : StatusChange → ℕ
snapshot_of (changes.Blocked snapshot) = snapshot
snapshot_of _ = 0

-- what a worker made of an evaluation
abbrev pub change_of : EvalOutcome → StatusChange
change_of (outcomes.Blocked snapshot) = changes.Blocked snapshot
change_of outcomes.Complete = changes.Complete
change_of outcomes.Failed = changes.Failed
