-- What an event changes: one server or one client, and what is kept beside them.
use Rattle.std.specs.Prelude.{◌≡◌, ◌≢◌, ℕ, ◌⊎◌, max, Result, Ok, Err, IfOk, OnErr, IfErr, List, [], ◌∷◌, ◌++◌}
use Rattle.rows.specs.declared.refusal.Refusal.{Refusal}
use Rattle.rows.specs.declared.refusal.Refusal.TheVariants as refusals
use Rattle.group_model.specs.Inputs as inputs
use Rattle.group_model.specs.Agents as agents
use Rattle.group_model.specs.Servers.{Server}
use Rattle.group_model.specs.Worlds.{Event, AtServer, AtClient}
use Rattle.group_inputs.specs.declared.client_input.ClientInput.{ClientInput}
use Rattle.client_agent.specs.AgentView.{AgentView}
use Rattle.server.specs.declared.server.Outbox.{Outbox}
use Rattle.server.specs.ServerViews.{ServerView, RefinesServer, SameServer}
use Rattle.group_inputs.specs.Handings.{Handing}
use Rattle.actor.specs.Refusals.{RefusedSo, ServerRefuses, ServerMayEndOutOfMemory, ClientRefuses, ClientMayEndOutOfMemory}
use Rattle.actor.specs.Answers.{ServerSteps, ServerCrashed, ServerStays, ClientSteps, ClientCrashed}
use Rattle.world.specs.declared.done.Done.{Done}
use Rattle.world.specs.declared.done.Done.TheVariants.{Taken, Crashed}
use Rattle.world.specs.Inner.Inputs.{committed}
use Rattle.world.specs.GroupView.{GroupView}
use Rattle.world.specs.GroupSteps.{IsGroupDone, SameView, RefusesGroupEvent, IsGroupAwake}

-- all frames that were ever sent, with what came for workers; all events that happened; and how
-- many entries were ever applied
pub record GroupHistoryView : Type 0 where
  pub outbox : Outbox
  pub trace : List Event
  pub chain : ℕ

-- ---- a server takes an event, which hands this to it

module _ (server : ServerView) (past : GroupHistoryView) (h : Handing) (e : Event) where
  pub record ServerTook (after : ServerView) (now : GroupHistoryView) : Type 0 where
    pub steps : ServerSteps server h after past.outbox now.outbox
    pub trace : now.trace ≡ past.trace ++ e ∷ []
    pub chain : (s : Server) → RefinesServer after s → now.chain ≡ max past.chain (committed s.raft)

  -- it found no memory, and crashed
  pub record ServerFell (i : ℕ) (after : ServerView) (now : GroupHistoryView) : Type 0 where
    pub crashed : ServerCrashed server after
    pub lacks : ServerMayEndOutOfMemory server h
    pub outbox : now.outbox ≡ past.outbox
    pub trace : now.trace ≡ past.trace ++ AtServer i inputs.Crash ∷ []
    pub chain : now.chain ≡ past.chain

  -- It crashed, or found no memory to start again, and nothing happened. It is refused as the
  -- server refuses it, or the world lacks memory.
  abbrev pub ServerDone : ℕ → Result Done Refusal → ServerView → GroupHistoryView → Type 0
  ServerDone i (Ok Taken) after now = ServerTook after now
  ServerDone i (Ok Crashed) after now = ServerFell i after now ⊎ ServerStays server h after × (now ≡ past)
  ServerDone i (Err cause) after now = SameServer server after × (now ≡ past) × RefusedSo (Unit {0}) (ServerRefuses server h) cause

-- ---- a client takes an event, which hands this to it

module _ (client : AgentView) (past : GroupHistoryView) (given : ClientInput) (e : Event) where
  pub record ClientTook (after : AgentView) (now : GroupHistoryView) : Type 0 where
    pub steps : ClientSteps client given after past.outbox.frames now.outbox.frames
    pub work : now.outbox.work ≡ past.outbox.work
    pub trace : now.trace ≡ past.trace ++ e ∷ []
    pub chain : now.chain ≡ past.chain

  -- it found no memory, and crashed
  pub record ClientFell (c : ℕ) (after : AgentView) (now : GroupHistoryView) : Type 0 where
    pub crashed : ClientCrashed client after
    pub lacks : ClientMayEndOutOfMemory client given
    pub outbox : now.outbox ≡ past.outbox
    pub trace : now.trace ≡ past.trace ++ AtClient c agents.Crash ∷ []
    pub chain : now.chain ≡ past.chain

  -- it is refused as the client refuses it, or the world lacks memory
  abbrev pub ClientDone : ℕ → Result Done Refusal → AgentView → GroupHistoryView → Type 0
  ClientDone c (Ok Taken) after now = ClientTook after now
  ClientDone c (Ok Crashed) after now = ClientFell c after now
  ClientDone c (Err cause) after now = (after ≡ client) × (now ≡ past) × RefusedSo (Unit {0}) (ClientRefuses client given) cause

-- ---- what became of an event, as the world says it

pub record GroupStepped (old : GroupView) (e : Event) (result : Result Done Refusal) (new : GroupView) : Type 0 where
  pub ok : IfOk result (λ d. IsGroupDone old e d new)
  pub err : OnErr result (SameView old new)
  pub cause : IfErr result (λ r. r ≢ refusals.NoMemory → RefusesGroupEvent old e r)
  pub memory : IfErr result (λ r. r ≡ refusals.NoMemory → IsGroupAwake old e)
