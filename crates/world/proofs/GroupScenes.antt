-- Which actor of a group takes an event, and what it is for it.
use Rattle.std.proofs.Common.{◌≡◌, ℕ, true, false, Some, Result, Ok, Err, List, [], map, length, slice_get}
use Rattle.rows.specs.declared.refusal.Refusal.{Refusal}
use Rattle.wire.specs.Frames.{Frame}
use Rattle.raft_model.specs.Rafts.{is_up}
use Rattle.fsm_model.specs.ClusterMachine.{cluster_spec}
use Rattle.group_model.specs.Messages.{GroupMessage, Service}
use Rattle.group_model.specs.Inputs as inputs
use Rattle.group_model.specs.Agents as agents
use Rattle.group_model.specs.Servers.{Server, ServerTurn}
use Rattle.group_model.specs.Worlds.{World, Event, AtServer, AtClient, IsRestart, happens, after_turn, after_client, crash_of}
use Rattle.group_safety.specs.Claims.{IsFromMember}
use Rattle.group_frames.specs.GroupFrames.{SendsGroup}
use Rattle.group_inputs.specs.declared.client_input.ClientInput.{ClientInput}
use Rattle.client_agent.specs.AgentView.{AgentView}
use Rattle.client_agent.specs.Steps.{AgentTakes}
use Rattle.client_agent.specs.Refusals.{AgentMayEndOutOfMemory, agent_refusal}
use Rattle.server.specs.declared.server.Outbox.{Outbox}
use Rattle.server.specs.ServerViews.{ServerView}
use Rattle.group_inputs.specs.Handings.{Handing}
use Rattle.server.specs.Steps.{TakesHanding, TakesTurn}
use Rattle.server.specs.Refusals.{MayEndOutOfMemory, handing_refusal}
use Rattle.actor.specs.Handed.{restarts_server}
use Rattle.world.specs.GroupWork.{work_of, turn_work}
use Rattle.world.specs.GroupSteps.{OutOfMemoryMayEndAt}

-- all that was sent came from the group of n
abbrev pub SendersIn : ℕ → World → Type 0
SendersIn n w = (k : ℕ) (x : GroupMessage) → slice_get w.sent k ≡ Some x → IsFromMember n x

-- in this world the event is that server i, which is s and has this view, is handed h
pub record ServerTakes (view : ServerView) (h : Handing) (w : World) (e : Event) (i : ℕ) (s : Server) : Type 0 where
  pub turns : Result ServerTurn Refusal
  pub happens : happens w e ≡ after_turn w i turns
  pub taken : (new : ServerView) (before after : Outbox) → TakesHanding view s h new before after → TakesTurn turns new before after
  pub work : work_of w e ≡ turn_work turns
  pub crash : crash_of w e ≡ Some (AtServer i inputs.Crash)
  pub wants : MayEndOutOfMemory (length w.servers) s h → OutOfMemoryMayEndAt w e
  pub refuses : SendersIn (length w.servers) w → (r : Refusal) → handing_refusal (length w.servers) i s h ≡ Some r → turns ≡ Err r
  pub restart : restarts_server h ≡ true → IsRestart e
  pub wakes : restarts_server h ≡ true → is_up s.raft.mode ≡ false → (turn : ServerTurn) × (turns ≡ Ok turn)

-- what a client's turn made of it
pub record ClientTurned (turns : Result agents.AgentTurn Refusal) (new : AgentView) (before after : List Frame) : Type 0 where
  pub turn : agents.AgentTurn
  pub is : turns ≡ Ok turn
  pub client : new.client ≡ turn.client
  pub sent : SendsGroup cluster_spec before after (map Service turn.sent)

-- in this world the event is that client c, which has this view, is handed `given`
pub record ClientTakes (view : AgentView) (given : ClientInput) (w : World) (e : Event) (c : ℕ) : Type 0 where
  pub turns : Result agents.AgentTurn Refusal
  pub happens : happens w e ≡ after_client w c turns
  pub taken : (new : AgentView) (before after : List Frame) → AgentTakes view given new before after → ClientTurned turns new before after
  pub work : work_of w e ≡ []
  pub crash : crash_of w e ≡ Some (AtClient c agents.Crash)
  pub wants : AgentMayEndOutOfMemory view.size view.client given → OutOfMemoryMayEndAt w e
  pub refuses : SendersIn (length w.servers) w → (r : Refusal) → agent_refusal view.size view.client given ≡ Some r → turns ≡ Err r
