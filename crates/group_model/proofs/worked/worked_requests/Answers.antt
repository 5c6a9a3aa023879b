use Rattle.std.proofs.Common.{refl}
use Rattle.raft_model.specs.Logs.{term_at, commands, merge}
use Rattle.raft_model.specs.Quorums.{is_quorum, count}
use Rattle.raft_model.specs.Messages.{to_others}
use Rattle.raft_model.specs.Rafts.{greatest}
use Rattle.group_model.proofs.worked.worked_requests.Goals as goal

pub returns : goal.returns
unfolding to_others term_at is_quorum count greatest commands merge
returns g = record {
  listed = refl;
  not_yet = refl;
  unknown_listed = refl;
  lost_not_listed = refl;
  report_taken = refl;
  reported_twice = refl;
  told_both_times = refl;
  unknown_reported = refl;
  lost_reported = refl;
  same_node = refl;
  node_back = refl;
  other_size = refl;
  at_no_leader = refl;
}
