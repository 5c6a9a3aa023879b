use Rattle.fsm_tables.specs.Inner.Keys.{alloc_name_cmp, on_node_cmp}
use Rattle.fsm_tables.proofs.Bounds.{names_total, nodes_total}
use Rattle.fsm_tables.proofs.Covers.{loses_keep}
use Rattle.fsm_tables.proofs.indexes.Indexes.remove_unless.Goals as goal

pub returns-in_err-remove_unless-2-clause-names_stay : goal.returns-in_err-remove_unless-2-clause-names_stay
returns-in_err-remove_unless-2-clause-names_stay c = loses_keep alloc_name_cmp names_total c.args.gone.now.name c.args.kept.now.name c.args.self.now.names c.remove_unless.new.self c.in_ok-remove_unless.ensures.ok

pub returns-clause-names_stay : goal.returns-clause-names_stay
returns-clause-names_stay c = loses_keep alloc_name_cmp names_total c.args.gone.now.name c.args.kept.now.name c.args.self.now.names c.remove_unless.new.self c.in_ok-remove_unless.ensures.ok

pub returns-clause-nodes_stay : goal.returns-clause-nodes_stay
returns-clause-nodes_stay c = loses_keep on_node_cmp nodes_total c.args.gone.now.node c.args.kept.now.node c.args.self.now.nodes c.remove_unless-2.new.self c.in_ok-remove_unless-2.ensures.ok
