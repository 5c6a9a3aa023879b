use Rattle.raft_safety.proofs.Applied as applied
use Rattle.raft_safety.proofs.servers.applied_stays.Goals as goal

pub returns : goal.returns
returns g c = let m = g.M.Machine.spec in let law = g.met.M.Machine.lawful in record {
  stays = λ n events past w r. applied.applied_stays m n events past w r law;
  stored = applied.stored_stays m;
  resumes = applied.resumes m;
}
