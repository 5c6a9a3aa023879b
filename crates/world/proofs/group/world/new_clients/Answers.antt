use Rattle.std.proofs.Common.{arith}
use Rattle.world.proofs.GroupBegins.{agent_more}
use Rattle.world.proofs.group.world.new_clients.Goals as goal

pub loop-position-preserved : goal.loop-position-preserved
loop-position-preserved c =
    agent_more c.args.n c.loop-position.position c.args.nodes.now c.index-nodes-position.result c.loop-position.clients.items c.push.new.self.items c.new_client.result (omega arith) c.index-nodes-position.is c.loop-position.invariant c.new_client.ensures
    c.in_ok-push.ensures.items
