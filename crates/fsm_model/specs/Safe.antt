-- What a safe state is: what the live allocations hold fits the nodes, and no name is held twice.
use Rattle.std.specs.Prelude.{Bool, ◌&&◌, List}
use Rattle.std.specs.List.{list_all}
use Rattle.std.specs.Ordering.{nat_cmp}
use Rattle.rows.specs.Sizes.{fits}
use Rattle.rows.specs.declared.node.Node.{Node}
use Rattle.rows.specs.Keys.{node_number}
use Rattle.fsm_tables.specs.Rows.{has_row}
use Rattle.fsm_tables.specs.Claims.{Claim, claims, used}
pub use Rattle.fsm_tables.specs.Claims.{same_name, are_distinct}
use Rattle.fsm_model.specs.Words.{State}

-- a node's use is within its size
abbrev pub is_within : List Claim → Node → Bool
is_within cs n = fits (used n.number cs) n.size

-- the node that a claim names has a row
abbrev pub is_placed : List Node → Claim → Bool
is_placed nodes c = has_row nat_cmp node_number c.node nodes

abbrev pub are_safe : List Node → List Claim → Bool
are_safe nodes cs = list_all (is_within cs) nodes && list_all (is_placed nodes) cs && are_distinct cs

-- the test of a safe state
abbrev pub is_safe : State → Bool
is_safe s = are_safe s.nodes (claims s.allocs)
