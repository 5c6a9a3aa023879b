use Rattle.raft_safety.proofs.Runs.{run_front, run_step}
use Rattle.raft_safety.proofs.events.a_run_is_steps.Goals as goal

pub returns : goal.returns
returns g c = let m = g.M.Machine.spec in record {
  front = run_front m;
  step = run_step m;
}
