-- How the ids that a client ever started are kept in a journal: all of them first, and then those
-- that it started since.
use Rattle.std.specs.Prelude.{◌≡◌, ◌≤◌, ◌-◌, ◌^◌, ℕ, Option, Some, None, Result, Ok, Err, List, ◌++◌, length, take, option_map}
use Rattle.fields_model.specs.Format.{list, whole}
use Rattle.fields_model.specs.Ids.{allocation_id}
use Rattle.rows.specs.declared.allocation.AllocId.{AllocId}
use Rattle.journal.specs.Replays.{Replay}
use Rattle.client_node.specs.declared.changes.IdsChange.{IdsChange}
use Rattle.client_node.specs.declared.changes.IdsChange.TheVariants as changes

abbrev pub ids_read : Result (List AllocId) ℕ → Option (List AllocId)
ids_read (Ok ids) = Some ids
ids_read (Err place) = None

-- a count of four bytes, and that many ids
abbrev pub ids_in : List ℕ → Option (List AllocId)
ids_in payload = ids_read (whole (list 4 (2 ^ 32 - 1) allocation_id) payload)

abbrev pub started_replay : Replay (List AllocId)
started_replay = record {
  whole = ids_in;
  after = λ ids payload. option_map (λ more. ids ++ more) (ids_in payload);
}

-- this led from the first of these to the other
abbrev pub LeadsIds : IdsChange → List AllocId → List AllocId → Type 0
LeadsIds changes.Nothing first now = first ≡ now
LeadsIds (changes.Behind count) first now = (count ≤ length now) × (first ≡ take count now)
