use Rattle.std.proofs.Common.{Err, rules, ◌≡◌}
use Rattle.sim_ending.proofs.Leading.{no_rows, some_rows}
use Rattle.sim_ending.proofs.Whole.{rows_there}
use Rattle.sim_ending.proofs.numbers.row_numbers.Goals as goal

pub returns-in_default-clause-counts : goal.returns-in_default-clause-counts
returns-in_default-clause-counts c = no_rows c.args.world.now.servers (λ servers are. rw c.in_default.is at (c.newest_state.ensures servers are))

pub returns-in_err-rows-clause-memory : goal.returns-in_err-rows-clause-memory
returns-in_err-rows-clause-memory c =
    let same : c.from_residual.result ≡ Err c.in_err-rows.field-0.0 = search rules in
    rw same (rows_there c.args.world.now.servers c.in-Some.state.now c.in-Some.ensures c.in_err-rows.ensures.memory)

pub returns-clause-counts : goal.returns-clause-counts
returns-clause-counts c =
    some_rows c.args.world.now.servers c.in-Some.state.now c.in-Some.ensures c.in_ok-rows.rows.items c.len.result c.count.result c.in_ok-rows.ensures.rows (search rules) (search rules)
