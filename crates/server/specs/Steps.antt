-- What a server of the group does with what is handed in.
use Rattle.std.specs.Prelude.{◌≡◌, ℕ, Result, Ok, ◌++◌}
use Rattle.rows.specs.declared.refusal.Refusal.{Refusal}
use Rattle.fsm_model.specs.ClusterMachine.{cluster_spec}
use Rattle.group_model.specs.Messages.{GroupMessage, OfLog, Service}
use Rattle.group_model.specs.Inputs.{Arrives}
use Rattle.group_model.specs.Servers.{Server, ServerTurn, step, takes_log_message}
use Rattle.group_frames.specs.GroupFrames.{IsGroupFrame, SendsGroup}
use Rattle.server.specs.declared.server.Outbox.{Outbox}
use Rattle.server.specs.ServerViews.{ServerView, RefinesServer}
use Rattle.group_inputs.specs.Handings.{Handing, FrameBytes, OwnInput}

-- a message comes to server `me` of n
abbrev pub takes_in : ℕ → ℕ → Server → GroupMessage → Result ServerTurn Refusal
takes_in n me s (OfLog message) = takes_log_message n me s message
takes_in n me s (Service message) = step n me s (Arrives message)

-- The definitions give a turn: the new value is its server, its messages were sent, and what is for
-- the workers was put behind what was there.
pub record TakesTurn (turns : Result ServerTurn Refusal) (new : ServerView) (before after : Outbox) : Type 0 where
  pub turn : ServerTurn
  pub is : turns ≡ Ok turn
  pub server : RefinesServer new turn.server
  pub sent : SendsGroup cluster_spec before.frames after.frames turn.sent
  pub work : after.work ≡ before.work ++ turn.work

-- what is handed in is taken: of bytes each message whose frame they are
abbrev pub TakesHanding : ServerView → Server → Handing → ServerView → Outbox → Outbox → Type 0
TakesHanding old s (FrameBytes bytes) new before after =
    (message : GroupMessage) → IsGroupFrame cluster_spec bytes message
    → TakesTurn (takes_in old.raft.size old.raft.me s message) new before after
TakesHanding old s (OwnInput input) new before after =
    TakesTurn (step old.raft.size old.raft.me s input) new before after
