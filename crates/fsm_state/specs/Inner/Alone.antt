-- A plan looked at alone, where names are held once: what its stops end, what it wants, each node's
-- use, and the names that it takes.
use Rattle.std.specs.Prelude.{ℕ, zero, suc, ◌+◌, Bool, true, ◌&&◌, List, [], ◌∷◌, Option, Some, None, if◌then◌else◌}
use Rattle.std.specs.List.{list_any, list_all}
use Rattle.std.specs.Ordering.{nat_cmp}
use Rattle.rows.specs.declared.allocation.AllocId.{AllocId}
use Rattle.rows.specs.declared.allocation.Allocation.{Allocation}
use Rattle.rows.specs.declared.command.AcceptedPlan.{AcceptedPlan}
use Rattle.rows.specs.Keys.{alloc_cmp, alloc_id, node_number}
use Rattle.rows.specs.Sizes.{plus, fits}
use Rattle.fsm_tables.specs.Rows.{row_of}
use Rattle.fsm_tables.specs.Claims.{Claim, claim_of, claims, used, is_live}
use Rattle.fsm_tables.specs.LiveNames.{live_named}
use Rattle.fsm_tables.specs.declared.name.AllocName.{AllocName}
use Rattle.fsm_model.specs.Words.{State, same_alloc}
use Rattle.fsm_model.specs.Safe.{are_distinct}
use Rattle.fsm_model.specs.Plans.{room_of, wanted}

-- ---- names

abbrev pub claim_name : Claim → AllocName
claim_name c = record { job = c.job; group = c.group; index = c.index }

-- whether what a name finds is one of these
abbrev pub is_free_but : List AllocId → Option Allocation → Bool
is_free_but ids None = true
is_free_but ids (Some a) = list_any (same_alloc a.id) ids

-- whether the rows, but for those, hold the claim's name for nobody
abbrev pub is_name_free : List AllocId → List Allocation → Claim → Bool
is_name_free ids rows c = is_free_but ids (live_named (claim_name c) rows)

-- ---- what stops end

-- what a live row claims, before the rest
abbrev pub claim_if_live : Option Allocation → List Claim → List Claim
claim_if_live None rest = rest
claim_if_live (Some a) rest = if is_live a then (claim_of a ∷ rest) else rest

-- what the live rows that are named claim, each once
abbrev pub ended_by : List AllocId → List Allocation → List Claim
ended_by [] rows = []
ended_by (id ∷ ids) rows =
    if list_any (same_alloc id) ids then ended_by ids rows
    else claim_if_live (row_of alloc_cmp alloc_id id rows) (ended_by ids rows)

-- ---- room

-- whether a number's room bears what is used of it and what is wanted, once some of it is ended
abbrev pub has_room : State → List Claim → List Claim → ℕ → Bool
has_room s es ws n =
    let room = room_of (row_of nat_cmp node_number n s.nodes) in
    fits (plus (used n (claims s.allocs)) (used n ws)) (plus room (used n es))

-- whether so many numbers from one on pass
abbrev pub all_from : (ℕ → Bool) → ℕ → ℕ → Bool
all_from f n zero = true
all_from f n (suc k) = f n && all_from f (n + 1) k

-- whether each number that a node can have passes
unfoldable pub all_numbers : (ℕ → Bool) → Bool
all_numbers f = all_from f 1 64

-- ---- the test

abbrev pub passes_alone : AcceptedPlan → State → Bool
passes_alone p s =
    all_numbers (has_room s (ended_by p.stops s.allocs) (wanted p)) && are_distinct (wanted p)
    && list_all (is_name_free p.stops s.allocs) (wanted p)
