-- How what a server stores is kept in the payloads of a journal: the first is the text of all of
-- it, and each other one a change.
use Rattle.std.specs.Prelude.{◌≡◌, ⊤, ℕ, Option, Some, None, Result, Ok, Err}
use Rattle.rows.specs.Versions.{newest}
use Rattle.fields_model.specs.Format.{whole}
use Rattle.machine_model.specs.MachineSpec.{MachineSpec}
use Rattle.raft_snapshot.specs.Changes.{changed_part, SharesEntries}
use Rattle.raft_snapshot.specs.Stored.{Stored}
use Rattle.raft_snapshot.specs.Texts.{Front, front, stable_at}
use Rattle.journal.specs.Replays.{Replay}
use Rattle.raft_records.specs.declared.delta.LogDelta.{LogDelta}
use Rattle.raft_records.specs.declared.delta.LogDelta.TheVariants as deltas

abbrev pub part_read : {A : Type 0} → Result A ℕ → Option A
part_read (Ok x) = Some x
part_read (Err place) = None

abbrev pub changed_by : {S C : Type 0} → Stored S C → Result (Front C) ℕ → Option (Stored S C)
changed_by s (Ok change) = changed_part s change
changed_by s (Err place) = None

abbrev pub raft_replay : {S C : Type 0} → MachineSpec S C → Replay (Stored S C)
raft_replay m = record {
  whole = λ payload. part_read (stable_at m payload);
  after = λ s payload. changed_by s (whole (front (m.commands newest)) payload);
}

-- what led from the first of these parts to the other
abbrev pub IsDelta : {S C : Type 0} → LogDelta → Stored S C → Stored S C → Type 0
IsDelta deltas.Nothing first now = first ≡ now
IsDelta (deltas.Behind keep) first now = SharesEntries first.log now.log keep
IsDelta deltas.Whole first now = ⊤
