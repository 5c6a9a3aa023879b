use Rattle.raft_progress.proofs.Existing as existing
use Rattle.raft_progress.proofs.campaigns.campaigns_exist.Goals as goal

pub returns : goal.returns
returns g c = λ n events past w r two Q quorum up i less member best level. existing.campaign_exists g.M.Machine.spec g.met.M.Machine.lawful n events past w r two Q quorum up i less member best level
