-- A safe state in facts.
use Rattle.std.specs.Prelude.{◌≤◌, T, List, [], ◌∷◌, is_some}
use Rattle.std.specs.List.{AllByRecursion}
use Rattle.rows.specs.declared.node.Node.{Node}
use Rattle.rows.specs.Sizes.{Part, amount}
use Rattle.fsm_model.specs.Words.{State, node_of}
use Rattle.fsm_tables.specs.Claims.{Claim, claims, used}
use Rattle.fsm_model.specs.Safe.{same_name}

-- of each part the node's use is within what it has
abbrev pub Within : List Claim → Node → Type 0
Within cs n = (p : Part) → amount p (used n.number cs) ≤ amount p n.size

-- another claim is of another name
abbrev pub Apart : Claim → Claim → Type 0
Apart c d = T (same_name c d) → ⊥

abbrev pub AllApart : List Claim → Type 0
AllApart [] = Unit {0}
AllApart (c ∷ cs) = AllByRecursion (Apart c) cs × AllApart cs

-- What is promised of a state: each node's use is within its size, each node that a live allocation
-- names has a row, and no two live allocations are of one name.
pub record Safe (s : State) : Type 0 where
  pub within : AllByRecursion (Within (claims s.allocs)) s.nodes
  pub placed : AllByRecursion (λ c. T (is_some (node_of c.node s))) (claims s.allocs)
  pub apart : AllApart (claims s.allocs)
