-- How what a server stores is saved.
use Rattle.std.proofs.Common.{◌≡◌, ◌∙◌, ℕ, Some, Ok, ap}
use Rattle.rows.specs.Versions.{newest}
use Rattle.fields_model.specs.Format.{whole}
use Rattle.fields_model.proofs.WholeTexts.{whole_only}
use Rattle.machine_model.specs.MachineSpec.{MachineSpec, LawfulMachine}
use Rattle.raft_snapshot.specs.Changes.{changed_part, log_change}
use Rattle.raft_snapshot.specs.Stored.{Stored}
use Rattle.raft_snapshot.specs.Texts.{front, stable_at, stable_text}
use Rattle.raft_snapshot.proofs.TextLaws.{front_lawful}
use Rattle.raft_records.specs.Records.{changed_by, part_read, raft_replay}

module _ {S C : Type 0} (m : MachineSpec S C) where
  pub change_saved : LawfulMachine m → (first now : Stored S C) (keep : ℕ) → (front (m.commands newest)).Fits (log_change now.term now.vote now.log keep)
      → changed_part first (log_change now.term now.vote now.log keep) ≡ Some now
      → (raft_replay m).after first ((front (m.commands newest)).text (log_change now.term now.vote now.log keep)) ≡ Some now
  change_saved law first now keep fits leads =
      let f = front (m.commands newest) in
      ap (changed_by first) (whole_only f (front_lawful (m.commands newest) (law.commands_lawful newest)) (log_change now.term now.vote now.log keep) fits) ∙ leads

  pub whole_saved : (now : Stored S C) → stable_at m (stable_text m newest now) ≡ Ok now → (raft_replay m).whole (stable_text m newest now) ≡ Some now
  whole_saved now read = ap part_read read
