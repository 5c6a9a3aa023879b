use Rattle.std.proofs.Common.{refl}
use Rattle.raft_model.specs.Logs.{term_at, commands, merge}
use Rattle.raft_model.specs.Quorums.{is_quorum, count}
use Rattle.raft_model.specs.Messages.{to_others}
use Rattle.raft_model.specs.Rafts.{greatest}
use Rattle.group_model.proofs.worked.worked_blocked.Goals as goal

pub returns : goal.returns
unfolding to_others term_at is_quorum count greatest commands merge
returns g = record {
  no_new_room = refl;
  other_class = refl;
  new_room = refl;
}
