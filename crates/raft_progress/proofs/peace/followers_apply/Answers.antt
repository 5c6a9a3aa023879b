use Rattle.raft_progress.proofs.Rounds as rounds
use Rattle.raft_progress.proofs.peace.followers_apply.Goals as goal

pub returns : goal.returns
returns g c = λ n events past w r. rounds.followers_follow g.M.Machine.spec g.met.M.Machine.lawful n events past w r
