use Rattle.std.proofs.Common.{refl}
use Rattle.raft_model.specs.Logs.{term_at, commands, merge}
use Rattle.raft_model.specs.Quorums.{is_quorum, count}
use Rattle.raft_model.specs.Messages.{to_others}
use Rattle.raft_model.specs.Rafts.{greatest}
use Rattle.group_model.proofs.worked.worked_turns.Goals as goal

pub returns : goal.returns
unfolding to_others term_at is_quorum count greatest commands merge
returns g = record {
  marks_it = refl;
  read_after_the_log = refl;
  marks_once = refl;
  drain_is_done = refl;
  none_is_due = refl;
  frees = refl;
  frees_once = refl;
  frees_quietly = refl;
  reaps_quietly = refl;
  room_is_applied = refl;
  room_it_knew_of = refl;
  waits_for_the_log = refl;
  end_refused = refl;
  stays_out = refl;
  out_for_the_last = refl;
  names_the_leader = refl;
  told_the_leader = refl;
  asks_no_stranger = refl;
  hears_no_stranger = refl;
  pings_no_stranger = refl;
  one_heartbeat = refl;
}
