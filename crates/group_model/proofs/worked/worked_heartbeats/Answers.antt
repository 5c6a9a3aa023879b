use Rattle.std.proofs.Common.{refl}
use Rattle.raft_model.specs.Logs.{term_at, commands, merge}
use Rattle.raft_model.specs.Quorums.{is_quorum, count}
use Rattle.raft_model.specs.Messages.{to_others}
use Rattle.raft_model.specs.Rafts.{greatest}
use Rattle.group_model.proofs.worked.worked_heartbeats.Goals as goal

pub returns : goal.returns
unfolding to_others term_at is_quorum count greatest commands merge
returns g = record {
  too_early = refl;
  is_disconnected = refl;
  expired_already = refl;
  earlier_number = refl;
  goes_down = refl;
  heard_away = refl;
  down_as_it_comes = refl;
}
