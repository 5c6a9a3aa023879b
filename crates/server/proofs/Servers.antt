-- Which servers of the definitions a value is, from one value to the next.
use Rattle.std.proofs.Common.{◌≡◌, true, Option, Some, None, Ok, refl, sym, ap, subst, ◌∙◌}
use Rattle.std.specs.Prelude.{IfSome, is_some}
use Rattle.rows.specs.declared.command.Command.{Command}
use Rattle.raft_model.specs.Rafts.{Raft, is_up, is_leader, crashed}
use Rattle.raft_core.specs.RaftView.{RaftView, SameRaft, IsCrashOf}
use Rattle.raft_core.specs.Steps.{RefinesRaft}
use Rattle.raft_core.proofs.Fills.{same_fills, crash_fills}
use Rattle.fsm_model.specs.Words.{State}
use Rattle.fsm_model.specs.ClusterMachine.{cluster_spec}
use Rattle.group_model.specs.Desks.{Desk}
use Rattle.group_model.specs.Servers.{Server, open_desk}
use Rattle.leader.specs.OpenDesks.{OpenDesk}
use Rattle.server.specs.ServerViews.{ServerView, RefinesServer, SameServer, IsOfLeader, crashed_server, group_desk}
use Rattle.server.specs.Refusals.{HasOpenDesk}
use Rattle.server.specs.Inner.Acts.{Serves}

-- ---- the only lemmas that know how a value stands for a server

pub mode_is : (view : RaftView State Command) (s : Raft Command) → RefinesRaft cluster_spec view s → s.mode ≡ view.server.mode
mode_is view s r = ap (λ (x : Raft Command). x.mode) r.is

pub same_raft : (old new : RaftView State Command) (s : Raft Command) → SameRaft old new → RefinesRaft cluster_spec old s → RefinesRaft cluster_spec new s
same_raft old new s same r = same_fills cluster_spec old new same s r

crashed_raft : (old new : RaftView State Command) (s : Raft Command) → IsCrashOf old new → RefinesRaft cluster_spec old s → RefinesRaft cluster_spec new (crashed s)
crashed_raft old new s lost r = crash_fills cluster_spec old new lost s r

-- ---- what a value shows of each

module _ (view : ServerView) (s : Server) (is : RefinesServer view s) where
  pub up_of : is_up view.raft.server.mode ≡ true → is_up s.raft.mode ≡ true
  up_of up = ap is_up (mode_is view.raft s.raft is.raft) ∙ up

  pub leads_of : is_leader view.raft.server.mode ≡ true → is_leader s.raft.mode ≡ true
  leads_of leads = ap is_leader (mode_is view.raft s.raft is.raft) ∙ leads

  some_desk : (d : Option OpenDesk) → is_some d ≡ true → is_some (group_desk d) ≡ true
  some_desk None h = h
  some_desk (Some o) h = h

  pub serves_at : Serves view → HasOpenDesk s
  serves_at h = record { leads = leads_of h.leads; is_open = subst (λ (d : Option Desk). is_some d ≡ true) is.desk (some_desk view.desk h.is_open) }

  pub desk_at : (o : OpenDesk) → view.desk ≡ Some o → s.desk ≡ Some o.desk
  desk_at o has = sym is.desk ∙ ap group_desk has

  -- the desk, where it is open
  pub open_at : (o : OpenDesk) → is_leader s.raft.mode ≡ true → view.desk ≡ Some o → open_desk s ≡ Ok o.desk
  open_at o leads has =
      let desk : s.desk ≡ Some o.desk = desk_at o has in
      rw (leads, desk) refl

-- ---- from one value to the next

pub same_is : (old new : ServerView) (s : Server) → SameServer old new → RefinesServer old s → RefinesServer new s
same_is old new s same is = record {
  raft = same_raft old.raft new.raft s.raft same.raft is.raft;
  desk = ap group_desk same.desk ∙ is.desk;
  led = subst (λ (d : Option OpenDesk). IfSome d (IsOfLeader s.raft)) (sym same.desk) is.led;
}

pub same_then : (old mid new : ServerView) → SameServer old mid → SameServer mid new → SameServer old new
same_then old mid new first next = record {
  raft = record { me = next.raft.me ∙ first.raft.me; size = next.raft.size ∙ first.raft.size; base = next.raft.base ∙ first.raft.base; server = next.raft.server ∙ first.raft.server };
  desk = next.desk ∙ first.desk;
}

pub crashed_is : (old new : ServerView) (s : Server) → IsCrashOf old.raft new.raft → new.desk ≡ None → RefinesServer old s → RefinesServer new (crashed_server s)
crashed_is old new s lost closed is = record {
  raft = crashed_raft old.raft new.raft s.raft lost is.raft;
  desk = ap group_desk closed;
  led = subst (λ (d : Option OpenDesk). IfSome d (IsOfLeader (crashed s.raft))) (sym closed) tt;
}
