use Rattle.std.proofs.Common.{◌≢◌, sym, ◌∙◌}
use Rattle.raft_core.proofs.Commits.{number-read}
use Rattle.raft_core.proofs.Sends.{asks_none, asks_skip, asks_next, front_on, sent_all}
use Rattle.raft_core.proofs.raft.beats.send_to_others.Goals as goal
use Rattle.raft_core.proofs.raft.beats.send_to_others.Goals.{then-position+in_ok-send_from, else-position}

pub loop-position-init : goal.loop-position-init
loop-position-init g c = record { sent = λ covered fits. asks_none g.M.Machine.spec c.args.me _ c.args.outbox.now; front = sent_all c.args.outbox.now }

pub loop-position-preserved : goal.loop-position-preserved
loop-position-preserved g c =
    let m = g.M.Machine.spec in
    let me = c.args.me in
    let position = c.loop-position.position in
    let next = sym (number-read c.args.next.now position 0 c.loop-position-test.true) in
    let so = c.loop-position.invariant in
    elim c.if-position.branch [
      | then-position+in_ok-send_from w ↦
          let other : position ≢ me = λ e. w.if-position.true (e ∙ sym c.position.ensures.value) in
          let one = rw (w.server_at.ensures, next) at w.in_ok-send_from.ensures.ok in
          rw w.outbox-is (record {
            sent = λ covered fits. asks_next m me _ c.args.outbox.now c.loop-position.outbox w.send_from.new.outbox position other (so.sent covered fits) (one covered fits);
            front = front_on c.args.outbox.now c.loop-position.outbox w.send_from.new.outbox so.front w.in_ok-send_from.ensures.front;
          })
      | else-position w ↦
          rw w.outbox-is (record {
            sent = λ covered fits. asks_skip m me _ c.args.outbox.now c.loop-position.outbox position (w.if-position.false ∙ c.position.ensures.value) (so.sent covered fits);
            front = so.front;
          })
    ]
