use Rattle.std.proofs.Common.{◌<◌, ap, ◌∙◌, arith}
use Rattle.group_model.specs.Blocked.{room_with}
use Rattle.blocked.proofs.RowByRow.{node_before}
use Rattle.blocked.proofs.rebuild.rooms_of.Goals as goal

pub loop-at-preserved : goal.loop-at-preserved
loop-at-preserved c =
    let n = c.in-Some.row.now in
    let some : 0 < c.loop-at.at = omega arith in
    record {
      within = omega arith;
      rooms = c.in_ok-note.ensures.ok ∙ ap (room_with n.class n.room) c.loop-at.invariant.rooms ∙ node_before c.args.nodes.now c.loop-at.at n some c.in-Some.ensures;
    }
