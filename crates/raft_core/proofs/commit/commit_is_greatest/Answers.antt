use Rattle.raft_core.proofs.Commits.{is_greatest, risen_commit}
use Rattle.raft_core.proofs.commit.commit_is_greatest.Goals as goal

pub returns : goal.returns
returns g c = record {
  greatest = is_greatest;
  risen = risen_commit;
}
