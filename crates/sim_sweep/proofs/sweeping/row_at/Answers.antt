use Rattle.std.proofs.Common.{◌≡◌, ◌∙◌, Some, ap, slice_get, sym}
use Rattle.sim_sweep.proofs.Keys.{read_at}
use Rattle.sim_sweep.proofs.sweeping.row_at.Goals as goal

pub returns-in-Some-Some-clause-row : goal.returns-in-Some-Some-clause-row
returns-in-Some-Some-clause-row c =
    let row = c.in-Some-Some.row in
    c.requires c.args.position row (read_at c.args.found.now c.args.position c.get.result (Some row) c.get.ensures.lookup.3 (sym c.copied.ensures ∙ c.in-Some-Some.is ∙ ap Some c.in-Some-Some.field-0-is))

pub returns-in-Some-Some-clause-found : goal.returns-in-Some-Some-clause-found
returns-in-Some-Some-clause-found c = λ row at.
    let own = c.in-Some-Some.row in
    let read : slice_get c.args.found.now c.args.position ≡ Some (Some own) = read_at c.args.found.now c.args.position c.get.result (Some own) c.get.ensures.lookup.3 (sym c.copied.ensures ∙ c.in-Some-Some.is ∙ ap Some c.in-Some-Some.field-0-is) in
    cc
