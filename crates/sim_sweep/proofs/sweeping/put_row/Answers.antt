use Rattle.std.proofs.Common.{Some, arith, sym}
use Rattle.std.proofs.lemmas.List.{set_past}
use Rattle.sim_sweep.proofs.Keys.{one_more_found}
use Rattle.sim_sweep.proofs.sweeping.put_row.Goals as goal

pub returns-then-position-found-clause-found : goal.returns-then-position-found-clause-found
returns-then-position-found-clause-found c =
    let task = c.args.task.now in
    one_more_found task.scenario.now task.settings task.first c.args.found.now c.args.placed.now.position c.args.placed.now.row c.requires.found c.requires.row

pub returns-else-position-found-clause-put : goal.returns-else-position-found-clause-put
returns-else-position-found-clause-put c = sym (set_past c.args.found.now c.args.placed.now.position (Some c.args.placed.now.row) (omega arith))
