use Rattle.std.proofs.Common.{refl}
use Rattle.raft_model.specs.Logs.{term_at, merge}
use Rattle.raft_model.specs.Quorums.{is_quorum, count}
use Rattle.raft_model.specs.Rafts.{greatest}
use Rattle.raft_model.proofs.worked.refusal_comes_again.Goals as goal

pub returns : goal.returns
unfolding term_at is_quorum count greatest merge
returns g = record {
  twice = refl;
  often = refl;
  commit_within_append = refl;
}
