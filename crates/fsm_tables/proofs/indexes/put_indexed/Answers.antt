use Rattle.std.proofs.Common.{◌∙◌, List, ap, subst, sym}
use Rattle.rows.specs.declared.allocation.Allocation.{Allocation}
use Rattle.fsm_tables.specs.Inner.Index.{entry_of}
use Rattle.fsm_tables.specs.Inner.Keys.{live_name, active_on, AreRowIndexes}
use Rattle.fsm_tables.proofs.Listed.{listed_put, listed_added}
use Rattle.fsm_tables.proofs.indexes.put_indexed.Goals as goal

pub returns-clause-listed : goal.returns-clause-listed
returns-clause-listed c = subst (λ (rows : List Allocation). AreRowIndexes rows c.remove_unless.new.self) (sym c.in_ok-put.ensures.ok)
    (listed_put c.args.row c.args.rows.now c.args.indexes.now c.add_unless.new.self c.remove_unless.new.self c.of-new.result c.of-old.result
    (record { name = c.of-new.ensures.name; node = c.of-new.ensures.node })
    (record { name = c.of-old.ensures.name ∙ ap (entry_of live_name) c.get.ensures; node = c.of-old.ensures.node ∙ ap (entry_of active_on) c.get.ensures })
    c.requires c.in_ok-add_unless.ensures.names c.in_ok-add_unless.ensures.nodes c.remove_unless.ensures.names_stay c.remove_unless.ensures.nodes_stay)

pub returns-in_err-put-clause-listed : goal.returns-in_err-put-clause-listed
returns-in_err-put-clause-listed c = subst (λ (rows : List Allocation). AreRowIndexes rows c.add_unless.new.self) (sym c.in_err-put.ensures.err)
    (listed_added c.args.rows.now c.args.indexes.now c.add_unless.new.self c.of-new.result c.of-old.result c.requires c.in_ok-add_unless.ensures.names c.in_ok-add_unless.ensures.nodes)
