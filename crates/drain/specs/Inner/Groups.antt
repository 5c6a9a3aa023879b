-- Groups of jobs that were met, and the allocations of the others.
use Rattle.std.specs.Prelude.{◌≡◌, Bool, not, ◌||◌, ◌&&◌, if◌then◌else◌, List, [], ◌∷◌, map, filter, take}
use Rattle.std.specs.BTreeSet.{contains}
use Rattle.std.specs.declared.cmp.Ordering.{Ordering}
use Rattle.std.specs.Ordering.{ordering_then}
use Rattle.rows.specs.declared.allocation.AllocId.{AllocId}
use Rattle.rows.specs.declared.allocation.Allocation.{Allocation}
use Rattle.rows.specs.Keys.{name_cmp}
use Rattle.fsm_tables.specs.Rows.{has_row}
use Rattle.fsm_model.specs.Words.{State}
use Rattle.group_model.specs.Drains.{same_group, group_moves}
use Rattle.drain.specs.declared.group.JobGroup.{JobGroup}
use Rattle.drain.specs.declared.marked.Marked.{Marked}

abbrev pub job_group : Allocation → JobGroup
job_group a = record { job = a.job; group = a.group }

abbrev pub job_group_cmp : JobGroup → JobGroup → Ordering
job_group_cmp a b = ordering_then (name_cmp a.job b.job) (name_cmp a.group b.group)

abbrev pub itself : JobGroup → JobGroup
itself g = g

-- whether the group of an allocation was met
abbrev pub is_met : List JobGroup → Allocation → Bool
is_met groups a = has_row job_group_cmp itself (job_group a) groups

-- the first of each job and group that was not met
abbrev pub firsts_but : (Allocation → Bool) → List Allocation → List Allocation
firsts_but met [] = []
firsts_but met (a ∷ rows) = if met a then firsts_but met rows else a ∷ firsts_but (λ b. same_group b a || met b) rows

-- none of its job and group is on the move
abbrev pub stays : State → Allocation → Bool
stays s a = not (group_moves s.allocs a)

-- the ids of the first 64 of these that stay
abbrev pub first_stays : State → List Allocation → List AllocId
first_stays s rows = take 64 (map (λ (a : Allocation). a.id) (filter (stays s) rows))

-- the groups are those on the move of the jobs that were looked at, and no other
abbrev pub AreMarked : List Allocation → Marked → Type 0
AreMarked rows m = (a : Allocation) → is_met m.groups a ≡ (contains name_cmp m.jobs a.job && group_moves rows a)
