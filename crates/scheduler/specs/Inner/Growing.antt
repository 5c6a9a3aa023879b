-- A plan that grows, with how full the nodes are.
use Rattle.std.specs.Prelude.{◌≡◌, ℕ, Bool, true, not, if◌then◌else◌, Option, Some, None, List, map, filter, take}
use Rattle.std.specs.List.{AllByRecursion, list_any}
use Rattle.rows.specs.declared.job.Group.{Group}
use Rattle.rows.specs.declared.allocation.AllocId.{AllocId}
use Rattle.rows.specs.declared.allocation.Allocation.{Allocation}
use Rattle.fsm_tables.specs.Claims.{is_live}
use Rattle.fsm_model.specs.Words.{State, same_alloc, alloc_of}
use Rattle.group_model.specs.Scheduling.{PlanPart, MOST_CHANGES, claimed_by, is_of_name, names_of_groups}
use Rattle.scheduler.specs.declared.growing.Growing.{Growing}
use Rattle.scheduler.specs.Inner.Loads.{load_of}

abbrev pub part_of : Growing → PlanPart
part_of p = record { stops = p.stops; places = p.places }

-- the allocation, unless it is among these
abbrev pub fresh : List AllocId → Option Allocation → Option Allocation
fresh ids None = None
fresh ids (Some a) = if list_any (same_alloc a.id) ids then None else Some a

-- the loads are those of the state's nodes once the plan is done
abbrev pub AreLoads : State → List ℕ → Growing → Type 0
AreLoads s job p = p.loads.items ≡ map (load_of (claimed_by s job (part_of p))) s.nodes

-- it is a live row of the state
abbrev pub IsLiveRow : State → Allocation → Type 0
IsLiveRow s a = (is_live a ≡ true) × (alloc_of a.id s ≡ Some a)

abbrev pub AreLiveRows : State → List Allocation → Type 0
AreLiveRows s rows = AllByRecursion (IsLiveRow s) rows

-- no group wants it
abbrev pub is_not_wanted : List Group → Allocation → Bool
is_not_wanted groups a = not (list_any (is_of_name a) (names_of_groups groups))

abbrev pub first_unwanted : List Group → List Allocation → List AllocId
first_unwanted groups rows =
    let those = filter (is_not_wanted groups) rows in
    take MOST_CHANGES (map (λ (a : Allocation). a.id) those)
