use Rattle.std.proofs.Common.{arith}
use Rattle.sim_ending.proofs.Places.{servers_all, servers_more}
use Rattle.sim_ending.proofs.servers.print_servers.Goals as goal

pub loop-place-preserved : goal.loop-place-preserved
loop-place-preserved g c =
    let contents = g.W.Write.contents in
    servers_more c.args.world.now.servers c.loop-place.place c.server_at.result.now c.server_at.ensures (contents c.args.out.now) (contents c.loop-place.out) (contents c.print_server.new.out)
    c.loop-place.invariant c.in_ok-print_server.ensures.line

pub returns-clause-lines : goal.returns-clause-lines
returns-clause-lines g c =
    let contents = g.W.Write.contents in
    servers_all c.args.world.now.servers c.loop-place.place (omega arith) (contents c.args.out.now) (contents c.loop-place.out) c.loop-place.invariant
