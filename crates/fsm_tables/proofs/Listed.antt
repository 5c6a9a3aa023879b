-- Both indexes after a put.
use Rattle.std.proofs.Common.{◌≡◌, List, [], Option, Some}
use Rattle.rows.specs.declared.allocation.Allocation.{Allocation}
use Rattle.rows.specs.Keys.{alloc_cmp, alloc_id}
use Rattle.fsm_tables.specs.declared.indexes.Indexes.{Indexes}
use Rattle.fsm_tables.specs.declared.indexes.RowEntries.{RowEntries}
use Rattle.fsm_tables.specs.Inner.Index.{entry_of, Gains, Grows, Keeps}
use Rattle.fsm_tables.specs.Inner.Keys.{alloc_name_cmp, live_name, on_node_cmp, active_on, AreRowIndexes}
use Rattle.fsm_tables.specs.Rows.{row_of, put}
use Rattle.fsm_tables.proofs.Bounds.{names_total, nodes_total}
use Rattle.fsm_tables.proofs.Covers.{none_covers, covers_grown, covers_put, gains_grow}

pub record AreEntriesOf (row : Option Allocation) (x : RowEntries) : Type 0 where
  pub name : x.name ≡ entry_of live_name row
  pub node : x.node ≡ entry_of active_on row

pub none_listed : (x : Indexes) → AreRowIndexes [] x
none_listed x = record { names = none_covers alloc_name_cmp names_total live_name x.names; nodes = none_covers on_node_cmp nodes_total active_on x.nodes }

pub listed_grown : (rows : List Allocation) (s n : Indexes) → AreRowIndexes rows s → Grows alloc_name_cmp s.names n.names → Grows on_node_cmp s.nodes n.nodes → AreRowIndexes rows n
listed_grown rows s n was names nodes = record {
  names = covers_grown alloc_name_cmp names_total live_name rows s.names n.names was.names names;
  nodes = covers_grown on_node_cmp nodes_total active_on rows s.nodes n.nodes was.nodes nodes;
}

pub listed_added : (rows : List Allocation) (s m : Indexes) (new old : RowEntries) → AreRowIndexes rows s → Gains alloc_name_cmp new.name old.name s.names m.names → Gains on_node_cmp new.node old.node s.nodes m.nodes → AreRowIndexes rows m
listed_added rows s m new old was add add' = listed_grown rows s m was (gains_grow alloc_name_cmp names_total new.name old.name s.names m.names add) (gains_grow on_node_cmp nodes_total new.node old.node s.nodes m.nodes add')

pub listed_put : (a : Allocation) (rows : List Allocation) (s m n : Indexes) (new old : RowEntries) → AreEntriesOf (Some a) new → AreEntriesOf (row_of alloc_cmp alloc_id a.id rows) old → AreRowIndexes rows s
    → Gains alloc_name_cmp new.name old.name s.names m.names → Gains on_node_cmp new.node old.node s.nodes m.nodes
    → Keeps alloc_name_cmp old.name new.name m.names n.names → Keeps on_node_cmp old.node new.node m.nodes n.nodes → AreRowIndexes (put alloc_cmp alloc_id a rows) n
listed_put a rows s m n new old is_new is_old was add add' keep keep' = record {
  names = covers_put alloc_name_cmp names_total live_name a rows s.names m.names n.names was.names (rw (is_old.name, is_new.name) at add) (rw (is_old.name, is_new.name) at keep);
  nodes = covers_put on_node_cmp nodes_total active_on a rows s.nodes m.nodes n.nodes was.nodes (rw (is_old.node, is_new.node) at add') (rw (is_old.node, is_new.node) at keep');
}
