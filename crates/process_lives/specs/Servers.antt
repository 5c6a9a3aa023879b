-- Servers of the log as such processes, over any machine.
use Rattle.std.specs.Prelude.{◌≡◌, ◌<◌, ◌≤◌, ◌⊎◌, ⊤, ℕ, Option, Some, None, List, [], ◌∷◌, ◌++◌}
use Rattle.std.specs.Prelude.{length}
use Rattle.machine_model.specs.MachineSpec.{MachineSpec, IsCommandOf}
use Rattle.machine_model.specs.After.{Admitted}
use Rattle.machine_model.specs.declared.entry.Entry.{Entry}
use Rattle.raft_model.specs.Logs.{commands}
use Rattle.raft_model.specs.Rafts.{Raft, restarted}
use Rattle.raft_model.specs.Steps.{Arrives, Timeout, Beat, Propose, Compact, Crash, Restart}
use Rattle.raft_model.specs.Chains.{Agree}
use Rattle.raft_snapshot.specs.Stored.{Stored}
use Rattle.wire.specs.Frames.{Frame, sized}
use Rattle.raft_core.specs.Inputs.{Handed, Bytes, Own}
use Rattle.raft_core.specs.RaftView.{RaftView, SameNumber, SameRaft}
use Rattle.raft_core.specs.Refusals.{refusal}
use Rattle.raft_core.specs.Steps.{RefinesRaft, Stores, Takes}
use Rattle.raft_core.specs.StoredParts.{stored_part}
use Rattle.journal.specs.Events.{IoEvent, BytesCame, InputEnded, RecordAppended, JournalReplaced}
use Rattle.journal.specs.Events.{BytesSent, LineReported}
use Rattle.journal.specs.Replays.{Replay}
use Rattle.processes.specs.Claims.{OccursIn}
use Rattle.processes.specs.Logs.{nothing_persistent, started}
use Rattle.process_lives.specs.Lives.{Code, Past, HasDone, IsReadAs}

-- The server's snapshot covers what its base does: no less; and no more, unless nothing stands
-- behind the base.
pub record CoversAll {S C : Type 0} (view : RaftView S C) : Type 0 where
  pub least : view.base.index ≤ view.server.covered
  pub most : (view.server.covered ≤ view.base.index) ⊎ (length view.server.log ≤ view.base.index)

-- what is sent is these frames, each as an item, and the rest is reported
abbrev pub AreFrames : List IoEvent → List Frame → Type 0
AreFrames [] [] = ⊤
AreFrames [] (frame ∷ frames) = ⊥
AreFrames (BytesCame bytes ∷ events) frames = ⊥
AreFrames (InputEnded ∷ events) frames = ⊥
AreFrames (RecordAppended payload ∷ events) frames = ⊥
AreFrames (JournalReplaced payload ∷ events) frames = ⊥
AreFrames (BytesSent bytes ∷ events) [] = ⊥
AreFrames (BytesSent bytes ∷ events) (frame ∷ frames) =
    (bytes ≡ sized frame.bytes) × AreFrames events frames
AreFrames (LineReported line ∷ events) frames = AreFrames events frames

-- what its parts are of code that runs servers
abbrev pub server_code : {S C : Type 0} → Replay (Stored S C) →
    (List ℕ → RaftView S C → RaftView S C → List IoEvent → Type 0) →
    (ℕ → Option (List ℕ) → RaftView S C → Type 0) → (ℕ → List ℕ) → (List ℕ → Type 0) →
    Code ℕ (RaftView S C) (Stored S C)
server_code replay Turn BeginsWith header IsFrame = record {
  replay = λ k. replay;
  part = stored_part;
  Turn = Turn;
  BeginsWith = BeginsWith;
  header = header;
  IsFrame = IsFrame;
}

module _ {S C : Type 0} (m : MachineSpec S C) (n : ℕ) (c : Code ℕ (RaftView S C) (Stored S C)) where
  -- what an item may be to a server: a frame, or an input of its own
  abbrev pub MayMean : List ℕ → Handed C → Type 0
  MayMean item (Bytes bytes) = (bytes ≡ item) × c.IsFrame item
  MayMean item (Own (Arrives message)) = ⊥
  MayMean item (Own Timeout) = ⊤
  MayMean item (Own Beat) = ⊤
  MayMean item (Own (Propose command)) = IsCommandOf m command
  MayMean item (Own Compact) = ⊤
  MayMean item (Own Crash) = ⊥
  MayMean item (Own Restart) = ⊥

  -- the server takes what the item is
  pub record TurnTakes (item : List ℕ) (old new : RaftView S C) (outs : List IoEvent) : Type 0 where
    pub handed : Handed C
    pub means : (s : Raft C) → RefinesRaft m old s → MayMean item handed
    pub frames : List Frame
    pub step : (s : Raft C) → RefinesRaft m old s → Takes m old s handed new [] frames
    pub admitted : (s : Raft C) → RefinesRaft m old s → refusal m old.size old.me s handed ≡ None
    pub same : SameNumber old new
    pub based : old.server.covered ≡ old.base.index → CoversAll new
    pub outs_are : AreFrames outs frames

  pub data TurnIs (item : List ℕ) (old new : RaftView S C) (outs : List IoEvent) : Type 0 where
    stays_so : SameRaft old new → AreFrames outs [] → TurnIs item old new outs
    takes_it : TurnTakes item old new outs → TurnIs item old new outs

  -- each part of what makes code a server's
  pub record RunsServers : Type 0 where
    pub part_is : (v : RaftView S C) → c.part v ≡ stored_part v
    pub turn : (item : List ℕ) (old new : RaftView S C) (outs : List IoEvent) →
        c.Turn item old new outs → TurnIs item old new outs
    pub member : (k : ℕ) (store : Option (List ℕ)) (v : RaftView S C) →
        c.BeginsWith k store v → k < n
    pub place : (k : ℕ) (store : Option (List ℕ)) (v : RaftView S C) →
        c.BeginsWith k store v → (v.me ≡ k) × (v.size ≡ n)
    pub starts : (k : ℕ) (store : Option (List ℕ)) (v : RaftView S C) →
        c.BeginsWith k store v → (s : Raft C) → Stores m (stored_part v) s →
        RefinesRaft m v (restarted s)
    pub first : (k : ℕ) (v : RaftView S C) → c.BeginsWith k None v →
        Stores m (stored_part v) (started nothing_persistent)
    pub reads : (k : ℕ) (file : List ℕ) (v : RaftView S C) →
        c.BeginsWith k (Some (c.header k ++ file)) v → IsReadAs (c.replay k) file (c.part v)

module _ {S C : Type 0} (m : MachineSpec S C) where
  -- It was sent or reported by a turn of a server which, before the turn and after it, had committed
  -- a first part of this list; and its log was admitted command by command.
  pub record IsOfServer
      (Turn : List ℕ → RaftView S C → RaftView S C → List IoEvent → Type 0)
      (list : List (Entry C)) (event : IoEvent) : Type 0 where
    pub item : List ℕ
    pub old : RaftView S C
    pub new : RaftView S C
    pub outs : List IoEvent
    pub turn : Turn item old new outs
    pub among : OccursIn outs event
    pub before : Raft C
    pub after : Raft C
    pub shows_before : RefinesRaft m old before
    pub shows_after : RefinesRaft m new after
    pub agrees_before : Agree before.commit before.log list
    pub agrees_after : Agree after.commit after.log list
    pub admitted_before : Admitted m (commands before.log)
    pub admitted_after : Admitted m (commands after.log)

  -- There is one list of entries such that each line that was reported is of a turn of a server of
  -- that list.
  pub record OneListOfLives (Turn : List ℕ → RaftView S C → RaftView S C → List IoEvent → Type 0)
      (past : Past ℕ) : Type 0 where
    pub list : List (Entry C)
    pub lines : (k : ℕ) (line : List ℕ) → HasDone past k (LineReported line) →
        IsOfServer Turn list (LineReported line)
