use Rattle.std.proofs.Common.{◌≢◌, sym, ◌∙◌}
use Rattle.raft_core.proofs.Sends.{asks_none, asks_skip, asks_next, sent_front, sent_all}
use Rattle.raft_core.proofs.raft.votes.ask.Goals as goal
use Rattle.raft_core.proofs.raft.votes.ask.Goals.{then-position+in_ok-send, else-position}

pub loop-position-init : goal.loop-position-init
loop-position-init g c = record { sent = asks_none g.M.Machine.spec c.args.me _ c.args.outbox.now; front = sent_all c.args.outbox.now }

pub loop-position-preserved : goal.loop-position-preserved
loop-position-preserved g c =
    let m = g.M.Machine.spec in
    let me = c.args.me in
    let position = c.loop-position.position in
    elim c.if-position.branch [
      | then-position+in_ok-send w ↦
          let other : position ≢ me = λ e. w.if-position.true (e ∙ sym c.position.ensures.value) in
          let one = rw w.server_at.ensures at w.in_ok-send.ensures.ok in
          let all = asks_next m me _ c.args.outbox.now c.loop-position.outbox w.send.new.outbox position other c.loop-position.invariant.sent one in
          rw w.outbox-is (record { sent = all; front = sent_front m c.args.outbox.now w.send.new.outbox _ all })
      | else-position w ↦
          let all = asks_skip m me _ c.args.outbox.now c.loop-position.outbox position (w.if-position.false ∙ c.position.ensures.value) c.loop-position.invariant.sent in
          rw w.outbox-is (record { sent = all; front = c.loop-position.invariant.front })
    ]
