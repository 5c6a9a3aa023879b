use Rattle.std.proofs.Common.{◌∙◌, inl, inr, sym}
use Rattle.sim_sweep.proofs.Worst.{worst_alone, worst_of_more}
use Rattle.sim_sweep.proofs.summary.worst_of.Goals as goal
use Rattle.sim_sweep.proofs.summary.worst_of.Goals.{then-is_worse, else-is_worse}

pub loop-row-init : goal.loop-row-init
loop-row-init c = worst_alone c.args.first.now

pub loop-row-preserved : goal.loop-row-preserved
loop-row-preserved c = worst_of_more c.args.first.now c.args.others.now c.loop-row.row-index c.row-item.result c.loop-row.worst c.if-is_worse.worst c.loop-row-test.true c.row-item.is c.loop-row.invariant (elim c.if-is_worse.branch [
  | then-is_worse w ↦ inl (sym c.is_worse.ensures ∙ w.if-is_worse.true, w.worst-is)
  | else-is_worse w ↦ inr (sym c.is_worse.ensures ∙ w.if-is_worse.false, w.worst-is)
])
