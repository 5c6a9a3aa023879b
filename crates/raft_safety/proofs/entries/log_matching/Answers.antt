use Rattle.raft_safety.proofs.Chains as chains
use Rattle.raft_safety.proofs.entries.log_matching.Goals as goal

pub returns : goal.returns
returns g c = λ n events past w r. chains.log_matching g.M.Machine.spec g.met.M.Machine.lawful n events past w r
