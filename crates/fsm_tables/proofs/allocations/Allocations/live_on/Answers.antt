use Rattle.std.proofs.Common.{◌∙◌, ap, subst, List}
use Rattle.std.specs.Prelude.{filter}
use Rattle.rows.specs.declared.allocation.Allocation.{Allocation}
use Rattle.fsm_tables.specs.Lookups.{lives_on, GivesRows}
use Rattle.fsm_tables.proofs.Bounds.{between_live, listed_alike}
use Rattle.fsm_tables.proofs.allocations.Allocations.live_on.Goals as goal

pub returns : goal.returns
returns c =
    let listed = rw (c.first-least.ensures, c.last-greatest.ensures, c.live.ensures, c.live-2.ensures) at c.rows_between.ensures in
    subst (λ (xs : List Allocation). GivesRows c.rows_between.result xs) (listed_alike _ _ c.self.inside.rows (between_live c.args.node) c.ranges-2.ensures.fit ∙ ap (filter (lives_on c.args.node)) c.self.view_is) listed
