use Rattle.std.proofs.Common.{◌∙◌, inl, inr, sym}
use Rattle.sim_recovery.proofs.Greatest.{farthest_alone, farthest_of_more, zero_row}
use Rattle.sim_recovery.proofs.farthest.farthest_of.Goals as goal
use Rattle.sim_recovery.proofs.farthest.farthest_of.Goals.{then-is_farther, else-is_farther}

pub loop-row-init : goal.loop-row-init
loop-row-init c = farthest_alone c.args.first.now

pub loop-row-preserved : goal.loop-row-preserved
loop-row-preserved c = farthest_of_more c.args.first.now c.args.others.now c.loop-row.row-index zero_row c.loop-row.farthest c.if-is_farther.farthest c.loop-row-test.true c.loop-row.invariant (elim c.if-is_farther.branch [
  | then-is_farther w ↦ inl (sym c.is_farther.ensures ∙ w.if-is_farther.true, w.farthest-is)
  | else-is_farther w ↦ inr (sym c.is_farther.ensures ∙ w.if-is_farther.false, w.farthest-is)
])
