use Rattle.raft_progress.proofs.Existing as existing
use Rattle.raft_progress.proofs.peace.rounds_exist.Goals as goal

pub returns : goal.returns
returns g c = λ n events past w r two Q quorum up i T less member. existing.rounds_exist g.M.Machine.spec g.met.M.Machine.lawful n events past w r two Q quorum up i less member T
