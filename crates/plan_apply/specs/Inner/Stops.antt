-- Stops that are kept, one after the other, and the rows that they name.
use Rattle.std.specs.Prelude.{◌≡◌, ℕ, not, ◌&&◌, List, [], ◌∷◌, ◌++◌, map, if◌then◌else◌}
use Rattle.std.specs.List.{list_any}
use Rattle.rows.specs.declared.allocation.AllocId.{AllocId}
use Rattle.rows.specs.declared.allocation.Allocation.{Allocation}
use Rattle.rows.specs.Keys.{alloc_id}
use Rattle.fsm_tables.specs.Claims.{claim_of}
use Rattle.fsm_model.specs.Words.{State, same_alloc}
use Rattle.fsm_model.specs.Admission.{is_live_of}
use Rattle.fsm_state.specs.Inner.Alone.{ended_by}

-- one more, if it is a live one of the job that is not there yet
abbrev pub with_live_stop : State → List ℕ → List AllocId → AllocId → List AllocId
with_live_stop s job ids id =
    if is_live_of job s id && not (list_any (same_alloc id) ids) then ids ++ id ∷ [] else ids

-- one more row, if it is not there yet
abbrev pub with_stopped : List Allocation → Allocation → List Allocation
with_stopped rows a =
    if list_any (same_alloc a.id) (map alloc_id rows) then rows else rows ++ a ∷ []

-- the rows claim what their stops end
abbrev pub AreEnded : State → List Allocation → Type 0
AreEnded s rows = ended_by (map alloc_id rows) s.allocs ≡ map claim_of rows
