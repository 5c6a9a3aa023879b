use Rattle.std.proofs.Common.{refl}
use Rattle.raft_model.specs.Logs.{merge, install, term_at}
use Rattle.raft_model.proofs.worked.worked_logs.Goals as goal

pub returns : goal.returns
unfolding merge install term_at
returns g = record {
  held_already = refl;
  late_append = refl;
  differs_at_first = refl;
  committed_stays = refl;
  other_previous = refl;
  missing_previous = refl;
  lower_term = refl;
  install_keeps = refl;
  install_discards = refl;
}
