-- What a worker plans at states written out.
use Rattle.std.specs.Prelude.{ℕ, Bool, true, false, List, [], ◌∷◌}
use Rattle.rows.specs.declared.evaluation.EvalStatus.TheVariants as eval_statuses
use Rattle.rows.specs.declared.evaluation.Evaluation.{Evaluation}
use Rattle.rows.specs.declared.allocation.AllocId.{AllocId}
use Rattle.rows.specs.declared.plan.Place.{Place}
use Rattle.rows.specs.declared.command.Command.TheVariants as commands
use Rattle.fsm_model.specs.Words.{State, no_rows}
use Rattle.fsm_model.specs.Effect.{applied}
use Rattle.fsm_model.specs.Worked.Words.{web, main, size, eval_id, alloc_id, comes, runs, place, plans, eval_row, after_all}
use Rattle.group_model.specs.Scheduling.{WorkerPlan, IsPlanFor}
use Rattle.group_model.specs.Worked.Words.{on_disks}

-- an evaluation of `web`
abbrev pub of_web : ℕ → Evaluation
of_web entry = eval_row (eval_id entry 0) web eval_statuses.Pending

abbrev pub on_node : ℕ → ℕ → Place
on_node index n = record { group = main; index = index; node = n }

abbrev pub plan : ℕ → ℕ → List AllocId → List Place → Bool → WorkerPlan
plan version snapshot stops places all = record {
  stops = stops;
  places = places;
  version = version;
  snapshot = snapshot;
  all_placed = all;
}

-- ---- two nodes, each with one of the two that `web` asks for; then it asks for one of another
-- size

abbrev pub both_live : State
both_live = after_all no_rows (
    commands.Noop
    ∷ comes 1 (size 1000 1000)
    ∷ comes 2 (size 1000 1000)
    ∷ runs web 2 (size 600 300)
    ∷ plans (eval_id 4 0) web 4 [] (place 0 1 (size 600 300) ∷ place 1 2 (size 600 300) ∷ [])
    ∷ [])

abbrev pub asks_for_one : ℕ → State
asks_for_one cpu = applied both_live (runs web 1 (size cpu 300))

-- both stop, the one that is not wanted first; the new one fills either node as much, so it goes to
-- the lower number
abbrev pub Replaced : Type 0
Replaced = IsPlanFor (asks_for_one 700) (of_web 6) 6
    (plan 6 6 (alloc_id 5 1 ∷ alloc_id 5 0 ∷ []) (on_node 0 1 ∷ []) true)

-- what fits on no node stays as it is
abbrev pub StaysAsItIs : Type 0
StaysAsItIs = IsPlanFor (asks_for_one 1100) (of_web 6) 6 (plan 6 6 (alloc_id 5 1 ∷ []) [] false)

-- of a stopped job all stops
abbrev pub AllStops : Type 0
AllStops = IsPlanFor (applied both_live (commands.JobStop web)) (of_web 6) 6
    (plan 6 6 (alloc_id 5 0 ∷ alloc_id 5 1 ∷ []) [] true)

-- of a job without a row there is nothing to do
abbrev pub NothingThere : Type 0
NothingThere = IsPlanFor no_rows (of_web 1) 0 (plan 0 0 [] [] true)

-- ---- a new job of two

-- on nodes of these sizes in cpu
abbrev pub new_web : ℕ → ℕ → ℕ → State
new_web one two need = after_all no_rows (
    commands.Noop
    ∷ comes 1 (size one 1000)
    ∷ comes 2 (size two 1000)
    ∷ runs web 2 (size need 300)
    ∷ [])

-- each node takes one
abbrev pub Apart : Type 0
Apart = IsPlanFor (new_web 1000 1000 600) (of_web 4) 4
    (plan 4 4 [] (on_node 0 1 ∷ on_node 1 2 ∷ []) true)

-- the fuller node goes first: the second goes where the first went
abbrev pub Together : Type 0
Together = IsPlanFor (new_web 1000 1000 400) (of_web 4) 4
    (plan 4 4 [] (on_node 0 1 ∷ on_node 1 1 ∷ []) true)

-- the first goes to the node that it fills more, though its number is higher
abbrev pub SmallerFirst : Type 0
SmallerFirst = IsPlanFor (new_web 1200 1000 600) (of_web 4) 4
    (plan 4 4 [] (on_node 0 2 ∷ on_node 1 1 ∷ []) true)

-- of 60 MB of disk each, the first fits on node 1 alone, and the second then on none
abbrev pub DiskForOne : Type 0
DiskForOne = IsPlanFor (on_disks 60) (of_web 4) 4 (plan 4 4 [] (on_node 0 1 ∷ []) false)

-- of 50 MB both fit on node 1: the first fills either node as much, by processor time and memory,
-- and so goes to the lower number, which the second then fills more
abbrev pub DiskForTwo : Type 0
DiskForTwo = IsPlanFor (on_disks 50) (of_web 4) 4
    (plan 4 4 [] (on_node 0 1 ∷ on_node 1 1 ∷ []) true)

-- one node, on which one of two fits
abbrev pub one_node : State
one_node = after_all no_rows (
    commands.Noop
    ∷ comes 1 (size 1000 1000)
    ∷ runs web 2 (size 600 300)
    ∷ commands.Noop
    ∷ [])

abbrev pub FitsOnce : Type 0
FitsOnce = IsPlanFor one_node (of_web 3) 4 (plan 3 4 [] (on_node 0 1 ∷ []) false)

-- and once that is applied
abbrev pub one_lives : State
one_lives = applied one_node (plans (eval_id 3 0) web 4 [] (place 0 1 (size 600 300) ∷ []))

abbrev pub NothingMore : Type 0
NothingMore = IsPlanFor one_lives (of_web 3) 5 (plan 3 5 [] [] false)
