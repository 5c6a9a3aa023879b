-- What an event changes: one server, and what is kept beside the servers.
use Rattle.std.specs.Prelude.{◌≡◌, ℕ, ◌<◌, ◌⊎◌, max, true, false, Some, Result, Ok, Err, List, [], ◌∷◌, ◌++◌}
use Rattle.rows.specs.declared.refusal.Refusal.{Refusal}
use Rattle.rows.specs.declared.refusal.Refusal.TheVariants as refusals
use Rattle.machine_model.specs.MachineSpec.{MachineSpec}
use Rattle.wire.specs.Frames.{Frame}
use Rattle.raft_model.specs.Rafts.{Raft, is_up, crashed}
use Rattle.raft_model.specs.Steps.{Input}
use Rattle.raft_model.specs.Worlds.{Event, Crashes, IsEvent}
use Rattle.raft_core.specs.RaftView.{RaftView}
use Rattle.raft_core.specs.Inputs.{Reads}
use Rattle.raft_core.specs.Steps.{RefinesRaft, Takes}
use Rattle.raft_core.specs.Refusals.{MayEndOutOfMemory, refusal}
use Rattle.world.specs.declared.done.Done.{Done}
use Rattle.world.specs.declared.done.Done.TheVariants.{Taken, Crashed}
use Rattle.world.specs.Steps.{LeftServer}
use Rattle.world.specs.Inner.HistoryView.{HistoryView}
use Rattle.world.specs.Inner.Inputs.{IsSent, handed_by, is_restart, committed}

-- the event is one for this server: what it delivers was sent, and what is handed in is an input of
-- the definitions
pub record IsForServer {S C : Type 0} (m : MachineSpec S C) (raft : RaftView S C) (sent : List Frame) (e : Event C) : Type 0 where
  pub inside : raft.me < raft.size
  pub there : IsSent sent e
  pub input : Input C
  pub reads : Reads m (handed_by sent e) input

module _ {S C : Type 0} (m : MachineSpec S C) (raft : RaftView S C) (past : HistoryView C) (e : Event C) where
  -- the server took it
  pub record PartTaken (after : RaftView S C) (now : HistoryView C) : Type 0 where
    pub event : IsEvent m e
    pub taken : (s : Raft C) → RefinesRaft m raft s → Takes m raft s (handed_by past.sent e) after past.sent now.sent
    pub trace : now.trace ≡ past.trace ++ e ∷ []
    pub chain : (s : Raft C) → RefinesRaft m after s → now.chain ≡ max past.chain (committed s)

  -- it found no memory, and crashed
  pub record PartCrashed (i : ℕ) (after : RaftView S C) (now : HistoryView C) : Type 0 where
    pub other : is_restart e ≡ false
    pub lacks : (s : Raft C) → RefinesRaft m raft s → MayEndOutOfMemory s.mode (handed_by past.sent e)
    pub fell : (s : Raft C) → RefinesRaft m raft s → (is_up s.mode ≡ true) × RefinesRaft m after (crashed s)
    pub sent : now.sent ≡ past.sent
    pub trace : now.trace ≡ past.trace ++ Crashes i ∷ []
    pub chain : now.chain ≡ past.chain

  -- it found no memory to start again
  pub record PartStays (after : RaftView S C) (now : HistoryView C) : Type 0 where
    pub restart : is_restart e ≡ true
    pub down : (s : Raft C) → RefinesRaft m raft s → is_up s.mode ≡ false
    pub same_raft : after ≡ raft
    pub same_past : now ≡ past

  -- the server refused it, or the world lacks memory
  abbrev pub IsPartRefused : Refusal → Type 0
  IsPartRefused refusals.NoMemory = Unit {0}
  IsPartRefused cause =
      (s : Raft C) → RefinesRaft m raft s → refusal m raft.size raft.me s (handed_by past.sent e) ≡ Some cause

  abbrev pub PartDone : ℕ → Result Done Refusal → RaftView S C → HistoryView C → Type 0
  PartDone i (Ok Taken) after now = PartTaken after now
  PartDone i (Ok Crashed) after now = PartCrashed i after now ⊎ PartStays after now
  PartDone i (Err cause) after now = LeftServer raft after × (now ≡ past) × IsPartRefused cause
