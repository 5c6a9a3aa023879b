use Rattle.group_model.proofs.FullLogs.{taken_at_full_log, exhausted_at_full_log}
use Rattle.group_model.proofs.laws.full_log_answers.Goals as goal

pub returns : goal.returns
returns g = record { taken = taken_at_full_log; exhausted = exhausted_at_full_log }
