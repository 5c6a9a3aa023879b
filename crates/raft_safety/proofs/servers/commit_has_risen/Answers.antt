use Rattle.raft_safety.proofs.Runs.{run_front}
use Rattle.raft_safety.proofs.Risen.{run_risen}
use Rattle.raft_safety.proofs.servers.commit_has_risen.Goals as goal

pub returns : goal.returns
returns g c = let m = g.M.Machine.spec in
    λ n events past w r two k i s a. run_risen m g.met.M.Machine.lawful n two _ _ a.world (run_front m n events past w r k a.world a.world_is) i s a.here
