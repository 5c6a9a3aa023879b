-- What the two indexes list allocations by: the live ones by name, those that are pending, running
-- or unknown by their node.
use Rattle.std.specs.Prelude.{ℕ, if◌then◌else◌, List, [], ◌∷◌, replicate, Option, Some, None}
use Rattle.std.specs.declared.cmp.Ordering.{Ordering}
use Rattle.std.specs.Ordering.{nat_cmp, bool_cmp, ordering_then}
use Rattle.rows.specs.declared.allocation.AllocId.{AllocId}
use Rattle.rows.specs.declared.allocation.Allocation.{Allocation}
use Rattle.rows.specs.Keys.{name_cmp}
use Rattle.fsm_tables.specs.declared.name.AllocName.{AllocName}
use Rattle.fsm_tables.specs.declared.index.Entry.{Entry}
use Rattle.fsm_tables.specs.declared.index_keys.OnNode.{OnNode}
use Rattle.fsm_tables.specs.declared.indexes.Indexes.{Indexes}
use Rattle.fsm_tables.specs.Claims.{is_active, is_wanted, is_live}
use Rattle.fsm_tables.specs.LiveNames.{name_of}
use Rattle.fsm_tables.specs.Inner.Index.{Covers}

-- names by job, group and index, in this order
abbrev pub alloc_name_cmp : AllocName → AllocName → Ordering
alloc_name_cmp a b = ordering_then (name_cmp a.job b.job) (ordering_then (name_cmp a.group b.group) (nat_cmp a.index b.index))

-- the name of a live row
abbrev pub live_name : Allocation → Option AllocName
live_name a = if is_live a then Some (name_of a) else None

-- by node, and on a node first what is to stop
abbrev pub on_node_cmp : OnNode → OnNode → Ordering
on_node_cmp a b = ordering_then (nat_cmp a.node b.node) (bool_cmp a.live b.live)

-- the node of a row that is pending, running or unknown, and whether it is to run
abbrev pub active_on : Allocation → Option OnNode
active_on a = if is_active a.client then Some (record { node = a.node; live = is_wanted a.desired }) else None

-- the ids from the least to the greatest
abbrev pub least_id : AllocId
least_id = record { index = 1; slot = 0 }

abbrev pub greatest_id : AllocId
greatest_id = record { index = 1099511627775; slot = 63 }

-- the first and the last entry that a key can have
abbrev pub first_entry : {K : Type 0} → K → Entry K
first_entry k = record { key = k; id = least_id }

abbrev pub last_entry : {K : Type 0} → K → Entry K
last_entry k = record { key = k; id = greatest_id }

-- the least and the greatest name of a job
abbrev pub least_name : List ℕ → AllocName
least_name job = record { job = job; group = 45 ∷ []; index = 0 }

abbrev pub greatest_name : List ℕ → AllocName
greatest_name job = record { job = job; group = replicate 32 122; index = 63 }

-- both indexes list what they are to list
pub record AreRowIndexes (rows : List Allocation) (x : Indexes) : Type 0 where
  pub names : Covers alloc_name_cmp live_name rows x.names
  pub nodes : Covers on_node_cmp active_on rows x.nodes
