use Rattle.std.proofs.lemmas.Result.{on_ok_weaker}
use Rattle.sim_ending.proofs.Whole.{none_told, not_none, rows_told}
use Rattle.sim_ending.proofs.last_lines.print_allocations.Goals as goal

pub returns-in_default-clause-lines : goal.returns-in_default-clause-lines
returns-in_default-clause-lines g c = none_told c.args.world.now.servers (g.W.Write.contents c.args.out.now) (λ servers are. rw c.in_default.is at (c.newest_state.ensures servers are))

pub returns-in_err-rows-clause-none : goal.returns-in_err-rows-clause-none
returns-in_err-rows-clause-none g c = not_none c.args.world.now.servers c.in-Some.state.now c.in-Some.ensures

pub returns-clause-lines : goal.returns-clause-lines
returns-clause-lines g c =
    let contents = g.W.Write.contents in
    let rows = c.in_ok-rows.rows.items in
    on_ok_weaker c.print_rows.result
    (rows_told c.args.world.now.servers c.in-Some.state.now c.in-Some.ensures rows (contents c.args.out.now) (contents c.print_rows.new.out) c.in_ok-rows.ensures.rows)
    (rw c.deref.ensures.value at c.print_rows.ensures.lines)

pub returns-clause-none : goal.returns-clause-none
returns-clause-none g c = not_none c.args.world.now.servers c.in-Some.state.now c.in-Some.ensures
