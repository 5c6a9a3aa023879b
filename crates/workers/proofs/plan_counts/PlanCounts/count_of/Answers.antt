use Rattle.std.proofs.Common.{sym, ap, ◌∙◌}
use Rattle.std.specs.Prelude.{unwrap_or}
use Rattle.workers.proofs.Leases.{count_found}
use Rattle.workers.proofs.plan_counts.PlanCounts.count_of.Goals as goal

pub returns : goal.returns
returns c =
    rw (← c.self.view_is) (c.unwrap_or.ensures ∙ ap (λ o. unwrap_or o 0) (c.copied.ensures ∙ c.get.ensures.value) ∙ sym (count_found c.args.lease.now c.self.inside.counts.entries))
