-- An input of a server's or a client's own, as an event of the group.
use Rattle.std.proofs.Common.{◌≡◌, ℕ, true, false, if◌then◌else◌, Some, Result, Ok, Err, List, length, refl, sym, ap, ◌∙◌, subst, slice_get}
use Rattle.std.proofs.lemmas.Option.{same_Some}
use Rattle.std.specs.Result.{result_err}
use Rattle.rows.specs.declared.refusal.Refusal.{Refusal}
use Rattle.wire.specs.Frames.{Frame}
use Rattle.raft_model.specs.Rafts.{is_up, silent, restarted}
use Rattle.raft_model.specs.Steps as raft_steps
use Rattle.fsm_model.specs.ClusterMachine.{cluster_spec}
use Rattle.group_model.specs.Inputs.{Input, Timeout, Beat, Request, TakeFrom, SubmitTo, FinishAt, NackAt, PlanTurn, Lapse, Expire, DrainTurn, FreeTurn, Reap, Compact, Crash, Restart, Act, AskRestart, asks}
use Rattle.group_model.specs.Servers.{Server, ServerTurn, acts, wakes, logged, done, step}
use Rattle.group_model.specs.Agents as agents
use Rattle.group_model.specs.Worlds.{World, AtServer, AtClient, IsRestart, own_input, takes_input, input_to, own_client_input, client_takes, client_input_to, client_at}
use Rattle.group_inputs.specs.declared.client_input.ClientInput.{ClientInput}
use Rattle.group_inputs.specs.declared.client_input.ClientInput.TheVariants as client_inputs
use Rattle.client_agent.specs.AgentView.{AgentView}
use Rattle.client_agent.specs.Steps.{AgentSteps, AgentTakes}
use Rattle.client_agent.specs.Refusals.{AgentMayEndOutOfMemory, agent_refusal}
use Rattle.server.specs.declared.server.Outbox.{Outbox}
use Rattle.group_inputs.specs.declared.server_input.ServerInput.{ServerInput}
use Rattle.group_inputs.specs.declared.server_input.ServerInput.TheVariants as inputs
use Rattle.server.specs.ServerViews.{ServerView}
use Rattle.group_inputs.specs.Handings.{OwnInput, handing}
use Rattle.server.specs.Steps.{TakesTurn}
use Rattle.server.specs.Refusals.{OutOfMemoryMayEnd, refusal_in}
use Rattle.actor.specs.Handed.{comes_as_frame, is_client_frame, restarts_server}
use Rattle.group_inputs.specs.Events.{server_input, client_input}
use Rattle.world.specs.GroupWork.{input_work}
use Rattle.world.specs.GroupSteps.{RunsThere, OutOfMemoryMayEndAt}
use Rattle.world.proofs.GroupScenes.{ServerTakes, ClientTurned, ClientTakes}

refusal_is : (q : Result ServerTurn Refusal) (r : Refusal) → refusal_in q ≡ Some r → q ≡ Err r
refusal_is (Ok turn) r h = absurd (cc)
refusal_is (Err e) r h = let same : e ≡ r = cc in ap (λ x. Err x) same

client_refusal_is : (q : Result agents.AgentTurn Refusal) (r : Refusal) → result_err q ≡ Some r → q ≡ Err r
client_refusal_is (Ok turn) r h = absurd (cc)
client_refusal_is (Err e) r h = let same : e ≡ r = cc in ap (λ x. Err x) same

-- ---- servers

-- a restart of one that is down is taken
pub woken : (n i : ℕ) (s : Server) → is_up s.raft.mode ≡ false → (turn : ServerTurn) × (step n i s Restart ≡ Ok turn)
woken n i s down =
    let act : Act = asks AskRestart s.desk in
    let asked : step n i s Restart ≡ logged s act (raft_steps.step cluster_spec n i s.raft raft_steps.Restart) = ap (λ b. done n i s (if b then acts n i s Restart else wakes s Restart)) down in
    let taken : raft_steps.step cluster_spec n i s.raft raft_steps.Restart ≡ Ok (silent (restarted s.raft)) = rw down refl in
    (_, asked ∙ ap (λ q. logged s act q) taken)

module _ (view : ServerView) (w : World) (i : ℕ) (s : Server) (me : view.raft.me ≡ i) (size : view.raft.size ≡ length w.servers) (here : slice_get w.servers i ≡ Some s) where
  same_turn : (input : Input) (new : ServerView) (before after : Outbox) → TakesTurn (step view.raft.size view.raft.me s input) new before after → TakesTurn (step (length w.servers) i s input) new before after
  same_turn input new before after t =
      subst (λ m. TakesTurn (step (length w.servers) m s input) new before after) me
      (subst (λ n. TakesTurn (step n view.raft.me s input) new before after) size t)

  same_server : (input : Input) → OutOfMemoryMayEnd (length w.servers) s input → (t : Server) → slice_get w.servers i ≡ Some t → OutOfMemoryMayEnd (length w.servers) t input
  same_server input may t there = subst (λ x. OutOfMemoryMayEnd (length w.servers) x input) (same_Some s t (sym here ∙ there)) may

  -- an input that is no arrival
  own : (input : Input) → own_input w i input ≡ takes_input w i input → (((t : Server) → slice_get w.servers i ≡ Some t → OutOfMemoryMayEnd (length w.servers) t input) → OutOfMemoryMayEndAt w (AtServer i input)) →
      (restarts_server (OwnInput input) ≡ true → IsRestart (AtServer i input)) →
      (restarts_server (OwnInput input) ≡ true → is_up s.raft.mode ≡ false → (turn : ServerTurn) × (step (length w.servers) i s input ≡ Ok turn)) → ServerTakes view (OwnInput input) w (AtServer i input) i s
  own input is wants starts rises = record {
    turns = step (length w.servers) i s input;
    happens = is ∙ ap (λ o. input_to w i input o) here;
    taken = same_turn input;
    work = ap (λ o. input_work w i input o) here;
    crash = refl;
    wants = λ may. wants (same_server input may);
    refuses = λ senders r h. refusal_is (step (length w.servers) i s input) r h;
    restart = starts;
    wakes = rises;
  }

  -- and no restart
  plain : (input : Input) → own_input w i input ≡ takes_input w i input → (((t : Server) → slice_get w.servers i ≡ Some t → OutOfMemoryMayEnd (length w.servers) t input) → OutOfMemoryMayEndAt w (AtServer i input)) →
      restarts_server (OwnInput input) ≡ false → ServerTakes view (OwnInput input) w (AtServer i input) i s
  plain input is wants other = own input is wants (λ so. absurd (cc)) (λ so. absurd (cc))

  by_input : (given : ServerInput) → comes_as_frame (handing given) ≡ false → ServerTakes view (handing given) w (AtServer i (server_input (handing given))) i s
  by_input (inputs.Frame bytes) other = absurd (cc)
  by_input inputs.Timeout other = plain Timeout refl (λ may. may) refl
  by_input inputs.Beat other = plain Beat refl (λ may. may) refl
  by_input (inputs.Request request) other = plain (Request request) refl (λ may. may) refl
  by_input (inputs.Take to) other = plain (TakeFrom to) refl (λ may. may) refl
  by_input (inputs.Submit to plan) other = plain (SubmitTo to plan) refl (λ may. may) refl
  by_input (inputs.Finish to eval token outcome) other = plain (FinishAt to eval token outcome) refl (λ may. may) refl
  by_input (inputs.Nack to eval token) other = plain (NackAt to eval token) refl (λ may. may) refl
  by_input inputs.PlanTurn other = plain PlanTurn refl (λ may. may) refl
  by_input (inputs.Lapse eval) other = plain (Lapse eval) refl (λ may. may) refl
  by_input (inputs.Expire node beats) other = plain (Expire node beats) refl (λ may. may) refl
  by_input (inputs.DrainTurn node) other = plain (DrainTurn node) refl (λ may. may) refl
  by_input inputs.FreeTurn other = plain FreeTurn refl (λ may. may) refl
  by_input inputs.Reap other = plain Reap refl (λ may. may) refl
  by_input inputs.Compact other = plain Compact refl (λ may. may) refl
  by_input inputs.Crash other = plain Crash refl (λ may. may) refl
  by_input inputs.Restart other = own Restart refl (λ may. may) (λ so. tt) (λ so down. woken (length w.servers) i s down)

pub own_server : (view : ServerView) (given : ServerInput) (w : World) (i : ℕ) (s : Server) → view.raft.me ≡ i → view.raft.size ≡ length w.servers → slice_get w.servers i ≡ Some s → comes_as_frame (handing given) ≡ false →
    ServerTakes view (handing given) w (AtServer i (server_input (handing given))) i s
own_server view given w i s me size here other = by_input view w i s me size here given other

-- ---- clients

module _ (view : AgentView) (w : World) (c : ℕ) (here : client_at w.clients c ≡ Some view.client) (size : view.size ≡ length w.servers) where
  pub turned : (input : agents.Input) (new : AgentView) (before after : List Frame) → AgentSteps view input new before after → ClientTurned (agents.step (length w.servers) view.client input) new before after
  turned input new before after t = record {
    turn = t.turn;
    is = subst (λ n. agents.step n view.client input ≡ Ok t.turn) size t.step;
    client = t.client;
    sent = t.sent;
  }

  own_of : (given : ClientInput) (input : agents.Input) → own_client_input w c input ≡ client_takes w c input → ((new : AgentView) (before after : List Frame) → AgentTakes view given new before after → AgentSteps view input new before after) →
      agent_refusal view.size view.client given ≡ result_err (agents.step view.size view.client input) → (AgentMayEndOutOfMemory view.size view.client given → OutOfMemoryMayEndAt w (AtClient c input)) → ClientTakes view given w (AtClient c input) c
  own_of given input is steps says wants = record {
    turns = agents.step (length w.servers) view.client input;
    happens = is ∙ ap (λ o. client_input_to w c input o) here;
    taken = λ new before after t. turned input new before after (steps new before after t);
    work = refl;
    crash = refl;
    wants = wants;
    refuses = λ senders r h. client_refusal_is (agents.step (length w.servers) view.client input) r (subst (λ n. result_err (agents.step n view.client input) ≡ Some r) size (sym says ∙ h));
  }

  by_client_input : (given : ClientInput) → is_client_frame given ≡ false → ClientTakes view given w (AtClient c (client_input given)) c
  by_client_input (client_inputs.Frame bytes) other = absurd (cc)
  by_client_input (client_inputs.Register server) other = own_of (client_inputs.Register server) (agents.RegisterAt server) refl (λ new before after t. t (agents.RegisterAt server) refl) refl (λ may. rw size at may.1)
  by_client_input (client_inputs.Ping server) other = own_of (client_inputs.Ping server) (agents.Ping server) refl (λ new before after t. t (agents.Ping server) refl) refl (λ may. rw size at may.1)
  by_client_input (client_inputs.Pull server) other = own_of (client_inputs.Pull server) (agents.PullFrom server) refl (λ new before after t. t (agents.PullFrom server) refl) refl (λ may. rw size at may.1)
  by_client_input (client_inputs.End id ok) other = own_of (client_inputs.End id ok) (agents.End id ok) refl (λ new before after t. t (agents.End id ok) refl) refl (λ may. subst (λ o. RunsThere o id) (sym here) may)
  by_client_input client_inputs.Crash other = own_of client_inputs.Crash agents.Crash refl (λ new before after t. t agents.Crash refl) refl (λ may. may)
  by_client_input client_inputs.Restart other = own_of client_inputs.Restart agents.Restart refl (λ new before after t. t agents.Restart refl) refl (λ may. may)

pub own_client : (view : AgentView) (given : ClientInput) (w : World) (c : ℕ) → client_at w.clients c ≡ Some view.client → view.size ≡ length w.servers → is_client_frame given ≡ false →
    ClientTakes view given w (AtClient c (client_input given)) c
own_client view given w c here size other = by_client_input view w c here size given other
