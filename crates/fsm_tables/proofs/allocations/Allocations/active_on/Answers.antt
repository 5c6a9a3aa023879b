use Rattle.std.proofs.Common.{◌∙◌, ap, subst, List}
use Rattle.std.specs.Prelude.{filter}
use Rattle.rows.specs.declared.allocation.Allocation.{Allocation}
use Rattle.fsm_tables.specs.Lookups.{is_active_on, GivesRows}
use Rattle.fsm_tables.proofs.Bounds.{between_active, listed_alike}
use Rattle.fsm_tables.proofs.allocations.Allocations.active_on.Goals as goal

pub returns : goal.returns
returns c =
    let listed = rw (c.first-least.ensures, c.last-greatest.ensures, c.stopping.ensures, c.live.ensures) at c.rows_between.ensures in
    subst (λ (xs : List Allocation). GivesRows c.rows_between.result xs) (listed_alike _ _ c.self.inside.rows (between_active c.args.node) c.ranges-2.ensures.fit ∙ ap (filter (is_active_on c.args.node)) c.self.view_is) listed
