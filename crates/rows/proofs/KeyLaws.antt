-- The orders of the keys are total.
use Rattle.std.specs.Cmp.{IsTotalOrder, nat_cmp_total, on_total, then_total}
use Rattle.rows.specs.Keys.{eval_cmp, alloc_cmp}
use Rattle.rows.specs.declared.allocation.AllocId.{AllocId}
use Rattle.rows.specs.declared.evaluation.EvalId.{EvalId}

pub eval_cmp_total : IsTotalOrder eval_cmp
eval_cmp_total = then_total (on_total (λ (e : EvalId). e.index) nat_cmp_total) (on_total (λ (e : EvalId). e.slot) nat_cmp_total)

pub alloc_cmp_total : IsTotalOrder alloc_cmp
alloc_cmp_total = then_total (on_total (λ (a : AllocId). a.index) nat_cmp_total) (on_total (λ (a : AllocId). a.slot) nat_cmp_total)
