use Rattle.std.proofs.Common.{◌∙◌, ap}
use Rattle.std.specs.List.{slice_get}
use Rattle.fsm_tables.specs.LiveNames.{live_named}
use Rattle.fsm_tables.proofs.Bounds.{between_name, listed_alike, first_of_name}
use Rattle.fsm_tables.proofs.allocations.Allocations.live_named.Goals as goal

pub returns : goal.returns
returns c =
    let rows = c.self.inside.rows in
    c.first_under.ensures
    ∙ ap (λ xs. slice_get xs 0) (listed_alike _ _ rows (between_name c.args.name.now) c.ranges-2.ensures.fit)
    ∙ first_of_name c.args.name.now rows
    ∙ ap (live_named c.args.name.now) c.self.view_is
