use Rattle.std.proofs.Common.{sym, ap, ◌∙◌, ◌+◌, ◌-◌, ◌&&◌, arith}
use Rattle.fsm_state.specs.Inner.Alone.{has_room, all_from}
use Rattle.fsm_state.proofs.Alone.{no_number, one_number, all_done}
use Rattle.fsm_state.proofs.cluster.Cluster.have_room.Goals as goal

pub loop-before-init : goal.loop-before-init
loop-before-init c = no_number (has_room c.args.self.now c.args.ended.now c.args.wanted.now)

pub loop-before-preserved : goal.loop-before-preserved
loop-before-preserved c =
    let f = has_room c.args.self.now c.args.ended.now c.args.wanted.now in
    let n = c.loop-before.before in
    c.loop-before.invariant ∙ one_number f n (omega arith) ∙ ap (λ b. b && all_from f (n + 1 + 1) (64 - (n + 1))) (sym c.if-not-has_number_room.ensures)

pub returns-then-not-has_number_room : goal.returns-then-not-has_number_room
returns-then-not-has_number_room c =
    let f = has_room c.args.self.now c.args.ended.now c.args.wanted.now in
    let n = c.loop-before.before in
    sym (c.loop-before.invariant ∙ one_number f n (omega arith) ∙ ap (λ b. b && all_from f (n + 1 + 1) (64 - (n + 1))) (sym c.if-not-has_number_room.ensures))

pub returns : goal.returns
returns c = sym (c.loop-before.invariant ∙ all_done (has_room c.args.self.now c.args.ended.now c.args.wanted.now) c.loop-before.before (omega arith))
