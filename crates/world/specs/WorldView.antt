-- What a contract sees of a world, which world of the definitions it represents, and that a run
-- leads there.
use Rattle.std.specs.Prelude.{◌≡◌, ℕ, Some, List, length, slice_get}
use Rattle.std.specs.List.{AllZip}
use Rattle.rows.specs.GroupSizes.{IsGroup}
use Rattle.machine_model.specs.MachineSpec.{MachineSpec}
use Rattle.wire.specs.Frames.{Frame}
use Rattle.raft_model.specs.Worlds.{World, Event, Run}
use Rattle.raft_core.specs.RaftView.{RaftView}
use Rattle.raft_core.specs.Frames.{FrameCarries}
use Rattle.raft_core.specs.Steps.{RefinesRaft}
use Rattle.raft_safety.specs.Claims.{IsGreatestCommit}

-- the servers, all frames that were ever sent, all events that happened, and how many entries were
-- ever applied
pub record WorldView (S C : Type 0) : Type 0 where
  pub servers : List (RaftView S C)
  pub sent : List Frame
  pub trace : List (Event C)
  pub chain : ℕ

-- its servers represent those of the world, and its frames carry the messages there, one for one
pub record RefinesWorld {S C : Type 0} (m : MachineSpec S C) (view : WorldView S C) (w : World C) : Type 0 where
  pub servers : AllZip (RefinesRaft m) view.servers w.servers
  pub sent : AllZip (FrameCarries m) view.sent w.sent

-- The trace is that of a run through the worlds `past` to w, which the value represents, and
-- `chain` is the greatest number of entries that any server had committed at some moment of it.
pub record RunsTo {S C : Type 0} (m : MachineSpec S C) (view : WorldView S C) (past : List (World C)) (w : World C) : Type 0 where
  pub run : Run m (length view.servers) view.trace past w
  pub refines : RefinesWorld m view w
  pub chain : IsGreatestCommit past w view.chain

-- each server knows its place and the size of the group
abbrev pub Numbered : {S C : Type 0} → WorldView S C → Type 0
Numbered {S} {C} view = (i : ℕ) (h : RaftView S C) → slice_get view.servers i ≡ Some h → (h.me ≡ i) × (h.size ≡ length view.servers)

-- what every world keeps
pub record IsRaftWorld {S C : Type 0} (m : MachineSpec S C) (view : WorldView S C) : Type 0 where
  pub past : List (World C)
  pub world : World C
  pub runs : RunsTo m view past world
  pub numbered : Numbered view
  pub size : IsGroup (length view.servers)
