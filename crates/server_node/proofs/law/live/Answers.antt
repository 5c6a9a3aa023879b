use Rattle.server_node.specs.Lives.{node_code}
use Rattle.server_node.proofs.Lives.{under_way}
use Rattle.server_node.proofs.law.live.Goals as goal

pub returns : goal.returns
returns g c = λ size me did done before after.
    under_way (node_code size) me c.args.node.now c.serve.new.actor (g.O.Outside.happened c.args.outside.now) (g.O.Outside.happened c.serve.new.outside) did done
    c.serve.result c.serve.ensures.ok c.serve.ensures.err before after
