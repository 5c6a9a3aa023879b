use Rattle.std.proofs.Common.{◌∙◌, ap, subst, List}
use Rattle.std.specs.Prelude.{filter}
use Rattle.rows.specs.declared.allocation.Allocation.{Allocation}
use Rattle.fsm_tables.specs.Lookups.{lives_for, GivesRows}
use Rattle.fsm_tables.proofs.Bounds.{between_job, listed_alike}
use Rattle.fsm_tables.proofs.allocations.Allocations.live_of_job.Goals as goal

pub returns : goal.returns
returns c =
    let listed = rw (c.first-least.ensures, c.last-greatest.ensures, c.least_of.ensures, c.greatest_of.ensures) at c.rows_between.ensures in
    subst (λ (xs : List Allocation). GivesRows c.rows_between.result xs) (listed_alike _ _ c.self.inside.rows (between_job c.args.job.now) c.ranges-2.ensures.fit ∙ ap (filter (lives_for c.args.job.now)) c.self.view_is) listed
