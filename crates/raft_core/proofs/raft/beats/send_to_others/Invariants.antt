use Rattle.std.specs.Prelude.{List}
use Rattle.machine_model.specs.declared.entry.Entry.{Entry}
use Rattle.raft_model.specs.Messages.{to_others}
use Rattle.raft_model.specs.Quorums.{index_at}
use Rattle.raft_snapshot.specs.Bases.{IsBaseOf}
use Rattle.raft_core.specs.Inner.Beats.{sent_from}
use Rattle.raft_core.specs.Frames.{Sends}
use Rattle.raft_core.specs.Inner.Turns.{KeepsFront}
use Rattle.raft_core.proofs.raft.beats.send_to_others.Given as goal

abbrev pub invariant-loop-position : goal.invariant-loop-position
invariant-loop-position g l = record {
  sent : (covered : List (Entry _)) → IsBaseOf g.M.Machine.spec l.log.base covered → Sends g.M.Machine.spec l.initial.outbox l.outbox (to_others l.me (λ to. sent_from l.me l.term l.commit covered l.log.entries (index_at l.next to) to) l.position);
  front : KeepsFront l.initial.outbox l.outbox;
}
