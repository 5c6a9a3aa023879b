use Rattle.std.proofs.Common.{refl}
use Rattle.raft_model.specs.Logs.{term_at, commands, merge}
use Rattle.raft_model.specs.Quorums.{is_quorum, count}
use Rattle.raft_model.specs.Messages.{to_others}
use Rattle.raft_model.specs.Rafts.{greatest}
use Rattle.group_model.proofs.worked.worked_fits.Goals as goal

pub returns : goal.returns
unfolding to_others term_at is_quorum count greatest commands merge
returns g = record {
  past_the_count = refl;
  other_group = refl;
  not_eligible = refl;
  not_ready = refl;
  is_away = refl;
  not_of_the_class = refl;
  name_lives = refl;
  later_version = refl;
  job_is_stopped = refl;
  other_evaluation = refl;
  stop_is_some = refl;
  nothing_is_none = refl;
  takes_all = refl;
  too_much_cpu = refl;
  too_much_memory = refl;
  too_much_disk = refl;
  first_of_two = refl;
  unknown_starts = refl;
  unknown_is_said = refl;
  known_is_not_said = refl;
  unlisted_stops = refl;
  ping_is_heartbeat = refl;
  pulls_its_list = refl;
  registers_its_node = refl;
  one_of_each_group = refl;
  none_is_missing = refl;
  marked_is_missing = refl;
  of_other_size = refl;
  of_other_disk = refl;
  of_other_class = refl;
  unknown_is_there = refl;
  lost_is_missing = refl;
  lost_from_unknown = refl;
  sixteen_are_most = refl;
  fifteen_are_fewer = refl;
}
