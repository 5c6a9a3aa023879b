use Rattle.std.proofs.Common.{refl}
use Rattle.raft_model.specs.Logs.{term_at, commands, merge, install}
use Rattle.raft_model.specs.Quorums.{is_quorum, count}
use Rattle.raft_model.specs.Messages.{to_others}
use Rattle.raft_model.specs.Rafts.{greatest}
use Rattle.raft_model.proofs.worked.late_append_then_install.Goals as goal

pub returns : goal.returns
unfolding to_others term_at is_quorum count greatest commands merge install
returns g = record {
  tail_stays = refl;
  tail_committed = refl;
}
