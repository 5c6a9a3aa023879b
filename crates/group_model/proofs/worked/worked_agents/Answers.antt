use Rattle.std.proofs.Common.{refl}
use Rattle.raft_model.specs.Logs.{term_at, commands, merge}
use Rattle.raft_model.specs.Quorums.{is_quorum, count}
use Rattle.raft_model.specs.Messages.{to_others}
use Rattle.raft_model.specs.Rafts.{greatest}
use Rattle.group_model.proofs.worked.worked_agents.Goals as goal

pub returns : goal.returns
unfolding to_others term_at is_quorum count greatest commands merge
returns g = record {
  starts = refl;
  old_list = refl;
  reports_again = refl;
  started_once = refl;
  reports_its_end = refl;
  not_started_again = refl;
  ends_once = refl;
  unknown_end = refl;
}
