use Rattle.std.proofs.Common.{refl}
use Rattle.raft_model.specs.Logs.{term_at}
use Rattle.raft_model.specs.Quorums.{is_quorum, count}
use Rattle.raft_model.specs.Messages.{to_others}
use Rattle.raft_model.proofs.worked.worked_votes.Goals as goal

pub returns : goal.returns
unfolding to_others term_at is_quorum count
returns g = record {
  candidate_asks = refl;
  voter_grants = refl;
  newer_voter_denies = refl;
  longer_voter_denies = refl;
  vote_outlasts_crash = refl;
  two_votes_of_five = refl;
  three_votes_of_five = refl;
  late_vote = refl;
  last_term = refl;
}
