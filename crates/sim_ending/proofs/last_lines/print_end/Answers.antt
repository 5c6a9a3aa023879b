use Rattle.sim_ending.proofs.Whole.{ending_told, flushed, on_ok_known}
use Rattle.sim_ending.proofs.last_lines.print_end.Goals as goal

pub returns-clause-told : goal.returns-clause-told
returns-clause-told g c =
    let contents = g.W.Write.contents in
    let before = contents c.args.out.now in
    let servers = contents c.print_servers.new.out in
    let rows = contents c.print_allocations.new.out in
    let clients = contents c.print_clients.new.out in
    let total = contents c.print_total.new.out in
    let after = contents c.flush.new.self in
    on_ok_known c.told.result
    (ending_told c.args.world.now c.one_list.ensures before servers rows clients after c.in_ok-print_servers.ensures.lines c.in_ok-print_allocations.ensures.lines
    (rw c.clients.ensures.clients at c.in_ok-print_clients.ensures.lines) (flushed clients total after _ c.in_ok-print_total.ensures.line c.flush.ensures.bytes))
