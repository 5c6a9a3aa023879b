use Rattle.std.proofs.Common.{◌≡◌, ℕ, ◌+◌, ◌-◌, sym, ap, ◌∙◌, rules}
use Rattle.std.specs.Prelude.{◌^◌, min, unwrap_or}
use Rattle.workers.specs.PlanCounts.{count_of}
use Rattle.workers.proofs.Leases.{count_found, counted}
use Rattle.workers.proofs.plan_counts.PlanCounts.add.Goals as goal

pub returns-in_err-insert-clause-first : goal.returns-in_err-insert-clause-first
returns-in_err-insert-clause-first c =
    let none : count_of c.args.lease c.args.self.now ≡ 0 = rw (← c.self.view_is) (count_found c.args.lease c.self.inside.counts.entries ∙ ap (λ o. unwrap_or o 0) c.in_err-insert.ensures.absent) in
    search (rules, none)

pub returns-clause-ok : goal.returns-clause-ok
returns-clause-ok c =
    let k = counted c.args.lease c.self.inside.counts.entries c.insert.new.self.entries c.saturating_add.result c.in_ok-insert.ensures.updates.0 in
    let plans : c.count_of-plans.result ≡ count_of c.args.lease c.self.inside.counts.entries = c.count_of-plans.ensures ∙ ap (count_of c.args.lease) (sym c.self.view_is) in
    rw (← c.self.view_is) (record {
      own = k.0 ∙ c.saturating_add.ensures ∙ ap (λ (n : ℕ). min (n + 1) (2 ^ 64 - 1)) plans;
      others = k.1;
    })
