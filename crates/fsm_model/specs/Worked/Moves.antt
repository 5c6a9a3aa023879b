-- A name that moves from one node to another.
use Rattle.std.specs.Prelude.{◌≡◌, ℕ, Some, None, [], ◌∷◌}
use Rattle.rows.specs.declared.refusal.Refusal.TheVariants as refusals
use Rattle.rows.specs.declared.allocation.Desired.TheVariants as desires
use Rattle.rows.specs.declared.allocation.ClientState.TheVariants as clients
use Rattle.rows.specs.declared.command.Command.{Command}
use Rattle.rows.specs.declared.command.Command.TheVariants as commands
use Rattle.fsm_model.specs.Words.{State, no_rows}
use Rattle.fsm_model.specs.Effect.{applied}
use Rattle.fsm_model.specs.Admission.{admission}
use Rattle.fsm_model.specs.Worked.Words.{web, api, size, eval_id, alloc_id, comes, runs, place, plans, node_row, alloc_row, after_all}

-- One allocation of `web` on node 1, 400 cpu (or one more) and 100 memory of `api` in use on node
-- 2, and a new evaluation of `web`.
abbrev pub one_of_each : ℕ → State
one_of_each cpu = after_all no_rows (
    comes 1 (size 1000 1000)
    ∷ comes 2 (size 1000 1000)
    ∷ runs web 1 (size 600 300)
    ∷ runs api 1 (size cpu 100)
    ∷ plans (eval_id 3 0) web 4 [] (place 0 1 (size 600 300) ∷ [])
    ∷ plans (eval_id 4 0) api 4 [] (place 0 2 (size cpu 100) ∷ [])
    ∷ commands.EvalPut web
    ∷ [])

-- the allocation is stopped, and its name placed on node 2
abbrev pub moves_over : Command
moves_over = plans (eval_id 7 0) web 7 (alloc_id 5 0 ∷ []) (place 0 2 (size 600 300) ∷ [])

abbrev pub NameMoves : Type 0
NameMoves = (applied (one_of_each 400) moves_over).allocs ≡
    alloc_row (alloc_id 5 0) web 0 1 (size 600 300) desires.Stop clients.Pending (eval_id 3 0)
    ∷ alloc_row (alloc_id 6 0) api 0 2 (size 400 100) desires.Run clients.Pending (eval_id 4 0)
    ∷ alloc_row (alloc_id 8 0) web 0 2 (size 600 300) desires.Run clients.Pending (eval_id 7 0)
    ∷ []

-- where it was there is room from then on, and where it goes there is none more
abbrev pub RoomWhereStopped : Type 0
RoomWhereStopped = (applied (one_of_each 400) moves_over).nodes ≡ node_row 1 (size 1000 1000) 8 ∷ node_row 2 (size 1000 1000) 2 ∷ []

abbrev pub MovePasses : Type 0
MovePasses = admission (one_of_each 400) moves_over ≡ None

abbrev pub MoveTooLarge : Type 0
MoveTooLarge = admission (one_of_each 401) moves_over ≡ Some refusals.OutOfRange

-- without the stop the name would live twice
abbrev pub NameTwice : Type 0
NameTwice = admission (one_of_each 400) (plans (eval_id 7 0) web 7 [] (place 0 2 (size 600 300) ∷ [])) ≡ Some refusals.OutOfRange

-- a stop of an allocation of another job
abbrev pub OtherJob : Type 0
OtherJob = admission (one_of_each 400) (plans (eval_id 7 0) web 7 (alloc_id 6 0 ∷ []) []) ≡ Some refusals.UnknownAlloc
