use Rattle.raft_safety.proofs.Chains.{chain_origin}
use Rattle.raft_safety.proofs.entries.entries_have_origins.Goals as goal

pub returns : goal.returns
returns g c = λ n events past w r. chain_origin g.M.Machine.spec g.met.M.Machine.lawful n events past w r
