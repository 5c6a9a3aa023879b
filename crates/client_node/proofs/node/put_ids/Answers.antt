use Rattle.client_node.proofs.Changing.{ids_written}
use Rattle.client_node.proofs.node.put_ids.Goals as goal

pub returns : goal.returns
returns c = ids_written c.args.ids.now c.write_long_counted.result c.args.out.now.items c.write_long_counted.new.out.items c.write_long_counted.ensures
