use Rattle.raft_progress.proofs.Rounds as rounds
use Rattle.raft_progress.proofs.peace.few_rounds_commit.Goals as goal

pub returns : goal.returns
returns g c = λ n events past w r. rounds.few_commit g.M.Machine.spec g.met.M.Machine.lawful n events past w r
