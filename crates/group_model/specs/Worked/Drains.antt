-- Which allocations move off a node: two of one group live on node 1.
use Rattle.std.specs.Prelude.{◌≡◌, true, Err, [], ◌∷◌}
use Rattle.rows.specs.declared.refusal.Refusal.TheVariants as refusals
use Rattle.rows.specs.declared.node.DrainMode.TheVariants as drains
use Rattle.rows.specs.declared.allocation.Allocation.{Allocation}
use Rattle.fsm_model.specs.Words.{State}
use Rattle.fsm_model.specs.Worked.Words.{web, size, alloc_id}
use Rattle.group_model.specs.Drains.{moves_of, next_moves}
use Rattle.group_model.specs.Worked.Words.{alloc_row, one_runs}

abbrev pub both_on_one : (migrate : Allocation → Allocation) → State
both_on_one f = record (one_runs (size 1 1)) { allocs = f (alloc_row (alloc_id 5 0) web 0 1 (size 400 300)) ∷ alloc_row (alloc_id 5 1) web 1 1 (size 400 300) ∷ [] }

abbrev pub as_is : Allocation → Allocation
as_is x = x

abbrev pub on_the_move : Allocation → Allocation
on_the_move x = record x { migrate = true }

abbrev pub OneAtATime : Type 0
OneAtATime = moves_of drains.Slow 1 (both_on_one as_is) ≡ alloc_id 5 0 ∷ []

abbrev pub OneMoves : Type 0
OneMoves = moves_of drains.Slow 1 (both_on_one on_the_move) ≡ []

abbrev pub AllAtOnce : Type 0
AllAtOnce = moves_of drains.Force 1 (both_on_one as_is) ≡ alloc_id 5 0 ∷ alloc_id 5 1 ∷ []

abbrev pub TheOther : Type 0
TheOther = moves_of drains.Force 1 (both_on_one on_the_move) ≡ alloc_id 5 1 ∷ []

-- A node that is not drained, and one that is unknown.
abbrev pub NotDrained : Type 0
NotDrained = next_moves (both_on_one as_is) 1 ≡ Err refusals.NotDraining

abbrev pub NoNode : Type 0
NoNode = next_moves (both_on_one as_is) 3 ≡ Err refusals.UnknownNode
