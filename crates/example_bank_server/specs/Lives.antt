-- Servers of a group over any machine as processes.
use Rattle.std.specs.Prelude.{◌≡◌, ◌+◌, ℕ, Option, List, ◌++◌, codes, decimal}
use Rattle.rows.specs.declared.refusal.Refusal.{Refusal}
use Rattle.machine_model.specs.MachineSpec.{MachineSpec}
use Rattle.raft_model.specs.Rafts.{Raft, restarted}
use Rattle.raft_core.specs.RaftView.{RaftView}
use Rattle.raft_core.specs.Steps.{IsGroupMember, RefinesRaft, Stores}
use Rattle.raft_core.specs.StoredParts.{stored_part}
use Rattle.raft_snapshot.specs.Stored.{Stored}
use Rattle.wire.specs.Frames.{IsFrame}
use Rattle.wire.specs.Messages.{Message}
use Rattle.process_lives.specs.Lives.{Code}
use Rattle.process_lives.specs.Servers.{server_code}
use Rattle.raft_records.specs.Records.{raft_replay}
use Rattle.raft_records.specs.Starts.{IsStored}
use Rattle.example_bank_server.specs.Turns.{Turn}

-- the first line of the journal of server `me` of so many
abbrev pub header_text : ℕ → ℕ → List ℕ
header_text size me = codes "minutebarn journal 1 bank_node " ++ (decimal (me + 1) ++ (codes " of " ++ (decimal size ++ codes "\n")))

module _ {S C : Type 0} (m : MachineSpec S C) where
  -- what `begin` answers: the server of this number, of what its store has
  pub record BeginsWith (size me : ℕ) (store : Option (List ℕ)) (view : RaftView S C) : Type 0 where
    pub member : IsGroupMember size me
    pub place : (view.me ≡ me) × (view.size ≡ size)
    pub stored : IsStored m (header_text size me) store (stored_part view)
    pub server : (s : Raft C) → Stores m (stored_part view) s → RefinesRaft m view (restarted s)

  -- the item is the frame of a message
  abbrev pub IsFrameItem : List ℕ → Type 0
  IsFrameItem item = (message : Message S C) × IsFrame m message item

  -- what such a process runs: the same words as in the contract of `serve`
  abbrev pub node_code : (S → List ℕ) → (Refusal → Option (List ℕ)) → ℕ → Code ℕ (RaftView S C) (Stored S C)
  node_code words reason size =
      server_code (raft_replay m) (Turn m words reason) (BeginsWith size) (header_text size) IsFrameItem
