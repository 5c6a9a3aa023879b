use Rattle.raft_progress.proofs.Goes as goes
use Rattle.raft_progress.proofs.calm.one_go_elects.Goals as goal

pub returns : goal.returns
returns g c = λ n events past w r two Q quorum up i less member best. goes.one_go g.M.Machine.spec g.met.M.Machine.lawful n events past w r two Q quorum up i less member best
