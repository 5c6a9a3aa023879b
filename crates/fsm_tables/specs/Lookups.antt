-- Which allocations the look-ups list.
use Rattle.std.specs.Prelude.{ℕ, Bool, ◌&&◌, List, nat_eq, bytes_eq}
use Rattle.rows.specs.declared.allocation.Allocation.{Allocation}
use Rattle.fsm_tables.specs.declared.name.AllocName.{AllocName}
use Rattle.fsm_tables.specs.Claims.{is_active, is_live}
use Rattle.fsm_tables.specs.LiveNames.{is_called}
pub use Rattle.pages.specs.Copies.{GivesRows}

-- the live ones of a name
abbrev pub lives_as : AllocName → Allocation → Bool
lives_as n a = is_live a && is_called n a

-- the live ones of a job
abbrev pub lives_for : List ℕ → Allocation → Bool
lives_for job a = is_live a && bytes_eq a.job job

-- the live ones on a node
abbrev pub lives_on : ℕ → Allocation → Bool
lives_on n a = nat_eq a.node n && is_live a

-- those on a node that it has still to start, or runs, whether they are to run or to stop
abbrev pub is_active_on : ℕ → Allocation → Bool
is_active_on n a = nat_eq a.node n && is_active a.client
