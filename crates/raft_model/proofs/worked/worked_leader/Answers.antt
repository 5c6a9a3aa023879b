use Rattle.std.proofs.Common.{refl}
use Rattle.raft_model.specs.Logs.{term_at, commands}
use Rattle.raft_model.specs.Quorums.{is_quorum, count}
use Rattle.raft_model.specs.Messages.{to_others}
use Rattle.raft_model.specs.Rafts.{greatest}
use Rattle.raft_model.proofs.worked.worked_leader.Goals as goal

pub returns : goal.returns
unfolding to_others term_at is_quorum count greatest commands
returns g = record {
  leader_beats = refl;
  older_term = refl;
  own_term = refl;
  past_last = refl;
  other_term = refl;
  next_goes_back = refl;
  next_stays_past_match = refl;
  whole_log = refl;
  not_leader = refl;
  is_down = refl;
  is_up = refl;
  restarts_from_snapshot = refl;
}
