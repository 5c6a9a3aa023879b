-- The names of live allocations.
use Rattle.std.specs.Prelude.{Bool, cond, ◌&&◌, List, [], ◌∷◌, Option, Some, None, nat_eq, bytes_eq}
use Rattle.rows.specs.declared.allocation.Allocation.{Allocation}
use Rattle.fsm_tables.specs.declared.name.AllocName.{AllocName}
use Rattle.fsm_tables.specs.Claims.{is_live}

-- the name of an allocation
abbrev pub name_of : Allocation → AllocName
name_of a = record { job = a.job; group = a.group; index = a.index }

-- whether an allocation has the name
abbrev pub is_called : AllocName → Allocation → Bool
is_called n a = bytes_eq a.job n.job && bytes_eq a.group n.group && nat_eq a.index n.index

-- the live allocation of a name: the first of the rows, which is the one of the least id, where
-- there are several
abbrev pub live_named : AllocName → List Allocation → Option Allocation
live_named n [] = None
live_named n (a ∷ rows) = cond (is_live a && is_called n a) (Some a) (live_named n rows)
