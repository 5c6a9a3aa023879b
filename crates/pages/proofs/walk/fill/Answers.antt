use Rattle.std.proofs.Common.{◌≡◌, length, rules, arith}
use Rattle.std.proofs.lemmas.Grind.{common_steps}
use Rattle.pages.proofs.Walks.{filled_left}
use Rattle.pages.proofs.walk.fill.Goals as goal

pub returns-then-is_empty-clause-left : goal.returns-then-is_empty-clause-left
returns-then-is_empty-clause-left g c =
    let z : length c.args.rows.now.run.now ≡ 0 = first_of (search rules, grind (arith, common_steps)) in
    filled_left c.args.rows.now.run.now c.args.rows.now.table.now c.run_from-rows.result.now c.args.rows.now.position z c.run_from-rows.ensures
