-- The order of evaluations is total.
use Rattle.std.specs.Cmp.{IsTotalOrder, nat_cmp_total, on_total, then_total}
use Rattle.std.proofs.lemmas.Cmp.{back_total}
use Rattle.rows.proofs.KeyLaws.{eval_cmp_total}
use Rattle.fsm_tables.specs.declared.urgency.Urgency.{Urgency}
use Rattle.fsm_tables.specs.Urgencies.{urgency_cmp}

pub urgency_cmp_total : IsTotalOrder urgency_cmp
urgency_cmp_total = then_total (on_total (λ (u : Urgency). u.priority.0) (back_total nat_cmp_total)) (on_total (λ (u : Urgency). u.id) eval_cmp_total)
