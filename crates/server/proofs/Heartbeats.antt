-- What a server does with a client's heartbeat.
use Rattle.std.proofs.Common.{◌≡◌, ℕ, [], ◌∷◌, Option, Some, None, Result, Ok, Err, sym, subst, ap, ◌∙◌}
use Rattle.std.specs.Prelude.{OnOk}
use Rattle.std.proofs.lemmas.List.{append-nil}
use Rattle.rows.specs.declared.refusal.NoMemory.{NoMemory}
use Rattle.rows.specs.declared.refusal.Refusal.{Refusal}
use Rattle.rows.specs.declared.worker.ClientRequestKind.TheVariants as kinds
use Rattle.raft_core.specs.RaftView.{SameRaft}
use Rattle.group_model.specs.Messages.{Heartbeat}
use Rattle.group_model.specs.ClientRequests.{tells, answers, takes_heartbeat}
use Rattle.group_model.specs.Desks.{Desk}
use Rattle.group_model.specs.Inputs.{Act}
use Rattle.group_model.specs.Servers.{Server}
use Rattle.leader.specs.OpenDesks.{Answered, at_open, on_heartbeat}
use Rattle.leader.specs.GroupActs.{heartbeat_act}
use Rattle.leader.proofs.Acts.{heartbeats_by_beat}
use Rattle.server.specs.declared.server.Outbox.{Outbox}
use Rattle.server.specs.ServerViews.{ServerView, RefinesServer}
use Rattle.server.specs.Refusals.{HasOpenDesk}
use Rattle.server.specs.Inner.Acts.{EachServer, DoesAct, EachDoes, client_act}
use Rattle.server.specs.Inner.Replies.{SendsOne}
use Rattle.server.proofs.DeskCalls.{Moves, moves, beat_keeps}
use Rattle.server.proofs.Serving.{act_taken, does_alone}

module _ (old new : ServerView) (before after : Outbox) (client : ℕ) (work : after.work ≡ before.work) where
  module _ (s : Server) where
    told : (e : Option Refusal) (d : Option Desk) → client_act old client Heartbeat s ≡ Ok (answers old.raft.me client kinds.Heartbeat e d) → RefinesServer new (record s { desk = d }) →
        SendsOne before.frames after.frames (tells old.raft.me client kinds.Heartbeat e) → DoesAct old.raft.size old.raft.me s (client_act old client Heartbeat s) new before after
    told e d is server sent =
        subst (λ (a : Result Act Refusal). DoesAct old.raft.size old.raft.me s a new before after) (sym is)
        (does_alone old.raft.size old.raft.me s new before after (tells old.raft.me client kinds.Heartbeat e ∷ []) d [] server sent (work ∙ sym (append-nil before.work)))

    -- it is counted
    pub beat_moved : Moves (on_heartbeat client) s tt new → SendsOne before.frames after.frames (tells old.raft.me client kinds.Heartbeat None) → DoesAct old.raft.size old.raft.me s (client_act old client Heartbeat s) new before after
    beat_moved m =
        told None (Some m.after.desk)
        (ap (λ (d : Result Desk Refusal). act_taken (takes_heartbeat old.raft.me client d s.desk)) m.is_open
        ∙ ap act_taken (heartbeats_by_beat old.raft.me client s.desk m.before)
        ∙ ap (λ (r : Answered (Unit {0})). act_taken (heartbeat_act old.raft.me client m.before r)) m.answers)
        m.server

  -- the same of each server that a value is
  module _ (r : Result (Unit {0}) NoMemory) where
    pub beat_told : EachServer old (λ s. HasOpenDesk s) → SameRaft old.raft new.raft → at_open (on_heartbeat client) old.desk ≡ Ok (tt, new.desk) →
        OnOk r (SendsOne before.frames after.frames (tells old.raft.me client kinds.Heartbeat None)) → OnOk r (EachDoes old (client_act old client Heartbeat) new before after)
    beat_told h same call = by r where
      by : (r : Result (Unit {0}) NoMemory) → OnOk r (SendsOne before.frames after.frames (tells old.raft.me client kinds.Heartbeat None)) → OnOk r (EachDoes old (client_act old client Heartbeat) new before after)
      by (Err x) sent = tt
      by (Ok u) sent = λ s is. beat_moved s (moves (on_heartbeat client) (beat_keeps client) s old new tt (h s is).leads is same call) sent
