-- What a server answers to what is handed in.
use Rattle.std.specs.Prelude.{◌≡◌, None, Result, OnOk, OnErr, IfErr}
use Rattle.rows.specs.declared.refusal.Refusal.{Refusal}
use Rattle.raft_core.specs.RaftView.{SameNumber}
use Rattle.group_model.specs.Servers.{Server}
use Rattle.server.specs.declared.server.Outbox.{Outbox}
use Rattle.server.specs.ServerViews.{ServerView, RefinesServer}
use Rattle.group_inputs.specs.Handings.{Handing}
use Rattle.server.specs.Keeping.{MayKeepHanding, StandsLast}
use Rattle.server.specs.Steps.{TakesHanding}
use Rattle.server.specs.Refusals.{handing_refusal, IsHandingRefused, HandingRefusalLeaves, HandingStays}

-- Whichever server of the definitions it was: it takes what they do not refuse, as they do, and
-- keeps its log as far as that lets it; or it refuses as they do, or for want of memory where some
-- may be wanted, and sends nothing.
pub record HandedIn (old : ServerView) (h : Handing) (result : Result (Unit {0}) Refusal) (new : ServerView) (before after : Outbox) : Type 0 where
  pub same : SameNumber old.raft new.raft
  pub taken : OnOk result ((s : Server) → RefinesServer old s → TakesHanding old s h new before after)
  pub admitted : OnOk result ((s : Server) → RefinesServer old s → handing_refusal old.raft.size old.raft.me s h ≡ None)
  pub keeps : OnOk result (MayKeepHanding h old.raft new.raft)
  pub stands : OnOk result (StandsLast h new)
  pub refused : IfErr result (λ cause. (s : Server) → RefinesServer old s → IsHandingRefused old.raft.size old.raft.me s h cause)
  pub left : IfErr result (λ cause. (s : Server) → RefinesServer old s → HandingRefusalLeaves old s h cause new)
  pub stays : IfErr result (λ cause. HandingStays old h cause new)
  pub unsent : OnErr result (after ≡ before)
