use Rattle.std.proofs.Common.{refl}
use Rattle.raft_model.specs.Logs.{term_at, merge, install}
use Rattle.raft_model.specs.Quorums.{is_quorum, count}
use Rattle.raft_model.specs.Messages.{to_others}
use Rattle.raft_model.specs.Rafts.{greatest}
use Rattle.raft_model.proofs.worked.worked_terms.Goals as goal

pub returns : goal.returns
unfolding to_others term_at is_quorum count greatest merge install
returns g = record {
  free_in_next_term = refl;
  grants_again = refl;
  older_term_denied = refl;
  stands_alone = refl;
  denial_is_none = refl;
  steps_down = refl;
  follows_leader = refl;
  leads_on = refl;
  commit_never_falls = refl;
  committed_is_held = refl;
  installed_before = refl;
  older_install = refl;
  match_never_falls = refl;
  install_counts = refl;
  late_answers = refl;
  outside_the_group = refl;
  thirty_two_at_once = refl;
  follower_is_silent = refl;
  covers_the_applied = refl;
  crash_loses_the_rest = refl;
  down_hears_nothing = refl;
  down_beats_not = refl;
  down_takes_no_proposal = refl;
  down_compacts_nothing = refl;
  down_crashes_not = refl;
}
