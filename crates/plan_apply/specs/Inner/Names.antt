-- Names of places, and of rows that keep theirs.
use Rattle.std.specs.Prelude.{ℕ, Bool, not, ◌&&◌, List, filter, length, nat_eq, bytes_eq}
use Rattle.std.specs.List.{list_any}
use Rattle.rows.specs.declared.allocation.AllocId.{AllocId}
use Rattle.rows.specs.declared.allocation.Allocation.{Allocation}
use Rattle.rows.specs.declared.command.AcceptedPlace.{AcceptedPlace}
use Rattle.fsm_tables.specs.Claims.{is_live}
use Rattle.fsm_tables.specs.LiveNames.{is_called}
use Rattle.fsm_tables.specs.declared.name.AllocName.{AllocName}
use Rattle.fsm_model.specs.Words.{same_alloc}

-- two places of one job are of one name
abbrev pub same_place : AcceptedPlace → AcceptedPlace → Bool
same_place k l = bytes_eq k.group l.group && nat_eq k.index l.index

-- no place of the ones is of the name, and one of the others
abbrev pub is_single : List AcceptedPlace → List AcceptedPlace → AcceptedPlace → Bool
is_single kept more k =
    nat_eq (length (filter (same_place k) kept)) 0 && nat_eq (length (filter (same_place k) more)) 1

abbrev pub place_name : List ℕ → AcceptedPlace → AllocName
place_name job k = record { job = job; group = k.group; index = k.index }

-- a row lives, does not stop, and has the name
abbrev pub keeps_name : AllocName → List AllocId → Allocation → Bool
keeps_name name ids a = is_live a && not (list_any (same_alloc a.id) ids) && is_called name a
