-- What a server stores, of each server that a value stands for.
use Rattle.std.proofs.Common.{◌≡◌, sym, ap, ◌∙◌}
use Rattle.machine_model.specs.MachineSpec.{MachineSpec}
use Rattle.raft_model.specs.Rafts.{Raft}
use Rattle.raft_snapshot.specs.Compacted.{IsCompacted}
use Rattle.raft_snapshot.specs.Stored.{Stored}
use Rattle.raft_core.specs.RaftView.{RaftView}
use Rattle.raft_core.specs.Steps.{RefinesRaft, Stores}
use Rattle.raft_core.specs.StoredParts.{stored_part}

pub stores_each : {S C : Type 0} (m : MachineSpec S C) (view : RaftView S C) → IsCompacted view.base view.server → (stored : Stored S C) → stored ≡ stored_part view → (s : Raft C) → RefinesRaft m view s → Stores m stored s
stores_each m view shown stored is s r = rw is (record {
  term = sym (ap (λ (x : Raft _). x.term) r.is);
  vote = sym (ap (λ (x : Raft _). x.vote) r.is);
  log = record { covered = r.covered; fits = r.fits; is = ap (λ (x : Raft _). x.log) r.is };
  covered = sym (ap (λ (x : Raft _). x.covered) r.is ∙ shown.count);
})
