-- Sets of ids.
use Rattle.std.specs.Prelude.{◌≡◌, Bool, List, option_map}
use Rattle.std.specs.List.{list_any}
use Rattle.rows.specs.declared.allocation.AllocId.{AllocId}
use Rattle.rows.specs.Ids.{alloc_cmp}
use Rattle.fsm_tables.specs.Rows.{row_of, has_row}
use Rattle.fsm_model.specs.Words.{same_alloc}
use Rattle.group_model.specs.Agents.{Running, Ended, runs, ended_how}
use Rattle.client_agent.specs.declared.ids.IdRow.{IdRow}

abbrev pub row_id : IdRow → AllocId
row_id r = r.id

abbrev pub lists_id : List IdRow → AllocId → Bool
lists_id rows id = has_row alloc_cmp row_id id rows

-- the set has just the ids of the list
abbrev pub AreSet : List AllocId → List IdRow → Type 0
AreSet ids rows = (id : AllocId) → lists_id rows id ≡ list_any (same_alloc id) ids

-- the set has just the ids of those that run
abbrev pub AreRunning : List Running → List IdRow → Type 0
AreRunning running rows = (id : AllocId) → lists_id rows id ≡ runs running id

abbrev pub end_id : Ended → AllocId
end_id e = e.id

-- the rows have just the first ends
abbrev pub AreEnds : List Ended → List Ended → Type 0
AreEnds ended rows = (id : AllocId) → option_map (λ (e : Ended). e.ok) (row_of alloc_cmp end_id id rows) ≡ ended_how ended id
