use Rattle.raft_progress.proofs.Goes as goes
use Rattle.raft_progress.proofs.calm.two_goes_elect.Goals as goal

pub returns : goal.returns
returns g c = λ n events past w r two Q quorum up i less member best. goes.two_goes g.M.Machine.spec g.met.M.Machine.lawful n events past w r two Q quorum up i less member best
