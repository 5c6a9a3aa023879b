-- What a server or a client makes of what comes to it.
use Rattle.std.specs.Prelude.{◌≡◌, true, false, is_some, Result, Ok, Err, List, []}
use Rattle.rows.specs.declared.refusal.Refusal.{Refusal}
use Rattle.wire.specs.Frames.{Frame}
use Rattle.raft_model.specs.Rafts.{is_up}
use Rattle.raft_core.specs.RaftView.{SameNumber}
use Rattle.group_model.specs.Servers.{Server}
use Rattle.client_agent.specs.AgentView.{AgentView, crashed_agent}
use Rattle.group_inputs.specs.declared.client_input.ClientInput.{ClientInput}
use Rattle.client_agent.specs.Steps.{AgentTakes}
use Rattle.server.specs.declared.server.Outbox.{Outbox}
use Rattle.server.specs.ServerViews.{ServerView, RefinesServer, SameServer, crashed_server}
use Rattle.group_inputs.specs.Handings.{Handing}
use Rattle.server.specs.Steps.{TakesHanding}
use Rattle.actor.specs.declared.stepped.Stepped.{Stepped}
use Rattle.actor.specs.declared.stepped.Stepped.TheVariants.{Taken, Crashed}
use Rattle.actor.specs.Handed.{restarts_server}
use Rattle.actor.specs.Refusals.{ServerRefuses, ServerAdmits, ServerMayEndOutOfMemory, ClientRefuses, ClientAdmits, ClientMayEndOutOfMemory, RefusedSo}

abbrev pub nothing_sent : Outbox
nothing_sent = record { frames = []; work = [] }

-- ---- a server

-- It takes what is handed in: whichever server of the definitions it is, the definitions do not
-- refuse it, so that a frame is a message for this server; and whichever message that is, they give
-- that turn, by which the outbox goes from the one to the other.
pub record ServerSteps (old : ServerView) (h : Handing) (new : ServerView) (before after : Outbox) : Type 0 where
  pub same : SameNumber old.raft new.raft
  pub admitted : ServerAdmits old h
  pub taken : (s : Server) → RefinesServer old s → TakesHanding old s h new before after

-- it was up, and lost what it does not store
pub record ServerCrashed (old new : ServerView) : Type 0 where
  pub same : SameNumber old.raft new.raft
  pub fell : (s : Server) → RefinesServer old s → (is_up s.raft.mode ≡ true) × RefinesServer new (crashed_server s)

-- it was down, and found no memory to start again
pub record ServerStays (old : ServerView) (h : Handing) (new : ServerView) : Type 0 where
  pub restart : restarts_server h ≡ true
  pub down : (s : Server) → RefinesServer old s → is_up s.raft.mode ≡ false
  pub same : new ≡ old

-- A step, or a crash where memory may be wanting, or a refusal that leaves the same server. All but
-- a step leave the outbox as it was.
abbrev pub ServerAnswers : ServerView → Handing → Outbox → Result Stepped Refusal → ServerView → Outbox → Type 0
ServerAnswers old h before (Ok Taken) new after = ServerSteps old h new before after
ServerAnswers old h before (Ok Crashed) new after = ServerCrashed old new × ServerMayEndOutOfMemory old h × (after ≡ before)
ServerAnswers old h before (Err cause) new after = SameServer old new × RefusedSo (ServerStays old h new) (ServerRefuses old h) cause × (after ≡ before)

-- ---- a client

-- It takes what is handed in, which the definitions do not refuse.
pub record ClientSteps (old : AgentView) (given : ClientInput) (new : AgentView) (before after : List Frame) : Type 0 where
  pub same : new.size ≡ old.size
  pub admitted : ClientAdmits old given
  pub taken : AgentTakes old given new before after

-- it was up, and lost what it does not store
abbrev pub ClientCrashed : AgentView → AgentView → Type 0
ClientCrashed old new = (is_some old.client.life ≡ true) × (new ≡ crashed_agent old)

-- The same of a client, which takes no memory to start again.
abbrev pub ClientAnswers : AgentView → ClientInput → List Frame → Result Stepped Refusal → AgentView → List Frame → Type 0
ClientAnswers old given before (Ok Taken) new after = ClientSteps old given new before after
ClientAnswers old given before (Ok Crashed) new after = ClientCrashed old new × ClientMayEndOutOfMemory old given × (after ≡ before)
ClientAnswers old given before (Err cause) new after = (new ≡ old) × RefusedSo ⊥ (ClientRefuses old given) cause × (after ≡ before)
