use Rattle.group_model.proofs.BlockedRows.{blocked_follow_evals, blocked_follow_nodes, blocked_follow_jobs, due_by_room}
use Rattle.group_model.proofs.laws.blocked_follow.Goals as goal

pub returns : goal.returns
returns g = record {
  evals = blocked_follow_evals;
  nodes = blocked_follow_nodes;
  jobs = blocked_follow_jobs;
  split = due_by_room;
}
