use Rattle.world.proofs.GroupBegins.{server_more}
use Rattle.world.proofs.group.world.new_servers.Goals as goal

pub loop-position-preserved : goal.loop-position-preserved
loop-position-preserved c =
    server_more c.args.n c.loop-position.position c.loop-position.servers.items c.push.new.self.items c.in_ok-new_server.field-0 c.loop-position.invariant c.in_ok-push.ensures.items c.in_ok-new_server.ensures.number
    c.in_ok-new_server.ensures.server
