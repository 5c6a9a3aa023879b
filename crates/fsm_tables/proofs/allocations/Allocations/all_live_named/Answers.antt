use Rattle.std.proofs.Common.{◌∙◌, ap, subst, List}
use Rattle.std.specs.Prelude.{filter}
use Rattle.rows.specs.declared.allocation.Allocation.{Allocation}
use Rattle.fsm_tables.specs.Lookups.{lives_as, GivesRows}
use Rattle.fsm_tables.proofs.Bounds.{between_name, listed_alike}
use Rattle.fsm_tables.proofs.allocations.Allocations.all_live_named.Goals as goal

pub returns : goal.returns
returns c =
    let listed = rw (c.first-least.ensures, c.last-greatest.ensures) at c.rows_between.ensures in
    subst (λ (xs : List Allocation). GivesRows c.rows_between.result xs) (listed_alike _ _ c.self.inside.rows (between_name c.args.name.now) c.ranges-2.ensures.fit ∙ ap (filter (lives_as c.args.name.now)) c.self.view_is) listed
