-- Events whose actor is not there, or is down.
use Rattle.std.proofs.Common.{◌≡◌, ◌≢◌, ◌⊎◌, inl, inr, ℕ, zero, suc, ◌<◌, ◌≤◌, nat_lt, nat_eq, Bool, true, false, is_some, Option, Some, None, option_map, Result, Ok, Err, List, map, length, refl, sym, ap, ◌∙◌, subst, slice_get, arith}
use Rattle.std.proofs.lemmas.Option.{slice_get-map}
use Rattle.rows.specs.declared.actor.Actor.TheVariants as actors
use Rattle.rows.specs.declared.allocation.AllocId.{AllocId}
use Rattle.rows.specs.declared.command.Command.{Command}
use Rattle.rows.specs.declared.node.Node.{Node}
use Rattle.rows.specs.declared.refusal.Refusal.{Refusal}
use Rattle.rows.specs.declared.refusal.Refusal.TheVariants as refusals
use Rattle.raft_model.specs.Rafts as rafts
use Rattle.raft_model.specs.Rafts.{Raft, Down, is_up, is_leader}
use Rattle.raft_model.specs.Steps as raft_steps
use Rattle.raft_safety.proofs.Places.{get-within}
use Rattle.raft_core.specs.Steps.{role_of}
use Rattle.raft_core.specs.declared.role.Role.{Role}
use Rattle.fsm_model.specs.Words.{State, node_of, is_draining}
use Rattle.fsm_model.specs.ClusterMachine.{cluster_spec}
use Rattle.fsm_model.proofs.ClusterMachine.{cluster_lawful}
use Rattle.group_model.specs.Messages.{GroupMessage, OfLog, Service, ServiceMessage, BetweenServers, ToServer, ToClient, ClientResponse}
use Rattle.group_model.specs.Drains.{is_done, next_moves_of}
use Rattle.group_model.specs.Brokers.{is_outstanding}
use Rattle.group_model.specs.Expiry.{HeartbeatCount, heartbeat_count_of}
use Rattle.group_model.specs.Desks.{Desk, applied_state, projected_state}
use Rattle.group_model.specs.Inputs.{Input, Arrives, Timeout, Beat, Request, TakeFrom, SubmitTo, FinishAt, NackAt, PlanTurn, Lapse, Expire, DrainTurn, FreeTurn, Reap, Compact, Crash, Restart, Act, Ask, rests, input_of}
use Rattle.group_model.specs.DeskTurns.{expiry_command, expire_of, drains_by, drain_turn_of}
use Rattle.group_model.specs.Servers.{Server, ServerTurn, open_or, open_desk, at_desk, takes_message, acts, logged, asks_log, done, step}
use Rattle.group_model.specs.Agents as agents
use Rattle.group_model.specs.Agents.{Agent, Life}
use Rattle.group_model.specs.Worlds.{World, Event, Deliver, AtServer, AtClient, happens, delivers, delivers_message, message_to, input_to, takes_input, own_input, own_client_input, client_input_to, client_takes, client_at, after_turn, after_client, refuses_message_at, refuses_response_at, crash_of_message}
use Rattle.group_frames.specs.GroupFrames.{CarriesGroup, receiver_of}
use Rattle.group_inputs.specs.declared.client_input.ClientInput.{ClientInput}
use Rattle.group_inputs.specs.declared.client_input.ClientInput.TheVariants as client_inputs
use Rattle.client_agent.specs.AgentView.{AgentView}
use Rattle.server.specs.ServerViews.{ServerView, RefinesServer}
use Rattle.group_inputs.specs.declared.server_input.ServerInput.{ServerInput}
use Rattle.group_inputs.specs.declared.server_input.ServerInput.TheVariants as inputs
use Rattle.group_inputs.specs.Handings.{Handing, FrameBytes, OwnInput, handing}
use Rattle.server.specs.Steps.{takes_in}
use Rattle.group_inputs.specs.Events.{server_input, client_input}
use Rattle.world.specs.GroupView.{GroupView, RefinesGroup, IsSentTo, client_in, client_view}
use Rattle.world.specs.GroupSteps.{RefusesGroupEvent, IsNoArrival, IsGroupAwake}
use Rattle.actor.specs.Handed.{comes_as_frame, restarts_server, is_client_frame, restarts_client}
use Rattle.world.specs.Inner.GroupParts.{GroupStepped}
use Rattle.world.proofs.Zips.{zip_at, zip_none}
use Rattle.world.proofs.Sleeping.{Awake, awake_is, awake_if, asleep, awake_role, up_awake}
use Rattle.world.proofs.GroupServers.{same_group}
use Rattle.world.proofs.GroupOwn.{woken}
use Rattle.world.proofs.GroupDeliveries.{same_server, Comes, comes, is_for, down_takes, for_client, down_hears}

-- ---- nothing happens

-- an event that is refused before its actor is asked
pub refused_at_once : (view : GroupView) (e : Event) (r : Refusal) → r ≢ refusals.NoMemory → RefusesGroupEvent view e r → GroupStepped view e (Err r) view
refused_at_once view e r other says = record { ok = tt; err = same_group view; cause = λ _. says; memory = λ lacks. absurd (other lacks) }

-- ---- a server that is up does not refuse for being down

logged_awake : (s : Server) (act : Act) (q : Result (rafts.RaftTurn Command) Refusal) → Awake q → Awake (logged s act q)
logged_awake s act (Ok turn) h = tt
logged_awake s act (Err r) h = h

open_awake : (d : Option Desk) → Awake (open_or d)
open_awake None = λ e. cc
open_awake (Some d) = tt

desk_awake : (q : Result Desk Refusal) (turn : Desk → Result Act Refusal) → Awake q → ((d : Desk) → Awake (turn d)) → Awake (at_desk q turn)
desk_awake (Ok d) turn f g = g d
desk_awake (Err r) turn f g = f

expire_awake : (d : Desk) (command : Command) (beats : ℕ) (o : Option HeartbeatCount) → Awake (expire_of d command beats o)
expire_awake d command beats None = λ e. cc
expire_awake d command beats (Some c) = awake_if (nat_eq c.beats beats) _ _ tt (λ e. cc)

moves_awake : (s : State) (n : Node) → Awake (next_moves_of s (Some n))
moves_awake s n = awake_if (is_draining n.drain) _ _ tt (λ e. cc)

drains_awake : (d : Desk) (s : State) (n : Node) (q : Result (List AllocId) Refusal) → Awake q → Awake (drains_by d s n q)
drains_awake d s n (Ok ids) h = awake_if (is_done n.number s) _ _ tt tt
drains_awake d s n (Err r) h = h

drain_awake : (d : Desk) (s : State) (o : Option Node) → Awake (drain_turn_of d s o)
drain_awake d s None = λ e. cc
drain_awake d s (Some n) = drains_awake d s n (next_moves_of s (Some n)) (moves_awake s n)

message_awake : (n me : ℕ) (s : Server) (x : ServiceMessage) → Awake (takes_message n me s x)
message_awake n me s (BetweenServers from to message) = awake_if (nat_lt from n) _ _ tt (λ e. cc)
message_awake n me s (ToServer client server request) = tt
message_awake n me s (ToClient server client response) = λ e. cc

module _ (n me : ℕ) (s : Server) where
  desk : Awake (open_desk s)
  desk = awake_if (is_leader s.raft.mode) _ _ (open_awake s.desk) (λ e. cc)

  acts_awake : (x : Input) → Awake (acts n me s x)
  acts_awake (Arrives message) = message_awake n me s message
  acts_awake Timeout = tt
  acts_awake Beat = tt
  acts_awake (Request request) = tt
  acts_awake (TakeFrom to) = awake_if (nat_lt to n) _ _ tt (λ e. cc)
  acts_awake (SubmitTo to plan) = awake_if (nat_lt to n) _ _ tt (λ e. cc)
  acts_awake (FinishAt to eval token outcome) = awake_if (nat_lt to n) _ _ tt (λ e. cc)
  acts_awake (NackAt to eval token) = awake_if (nat_lt to n) _ _ tt (λ e. cc)
  acts_awake PlanTurn = desk_awake (open_desk s) _ desk (λ d. tt)
  acts_awake (Lapse eval) = desk_awake (open_desk s) _ desk (λ d. awake_if (is_outstanding eval d.broker) _ _ tt (λ e. cc))
  acts_awake (Expire node beats) = desk_awake (open_desk s) _ desk (λ d. expire_awake d (expiry_command (applied_state s.raft) node) beats (heartbeat_count_of node d.heartbeat_counts))
  acts_awake (DrainTurn node) = desk_awake (open_desk s) _ desk (λ d. drain_awake d (projected_state s.raft) (node_of node (projected_state s.raft)))
  acts_awake FreeTurn = desk_awake (open_desk s) _ desk (λ d. tt)
  acts_awake Reap = desk_awake (open_desk s) _ desk (λ d. tt)
  acts_awake Compact = tt
  acts_awake Crash = tt
  acts_awake Restart = λ e. cc

  module _ (up : is_up s.raft.mode ≡ true) where
    log_awake : (x : raft_steps.Input Command) → Awake (raft_steps.step cluster_spec n me s.raft x)
    log_awake x = up_awake cluster_spec cluster_lawful n me s.raft x up

    asks_awake : (act : Act) (ask : Option Ask) → Awake (asks_log n me s act ask)
    asks_awake act None = tt
    asks_awake act (Some ask) = logged_awake s act _ (log_awake (input_of ask))

    done_awake : (q : Result Act Refusal) → Awake q → Awake (done n me s q)
    done_awake (Ok act) h = asks_awake act act.ask
    done_awake (Err r) h = h

    up_steps : (x : Input) → Awake (step n me s x)
    up_steps x = done_awake _ (rw up (acts_awake x))

    up_takes : (x : GroupMessage) → Awake (takes_in n me s x)
    up_takes (OfLog message) = logged_awake s (rests s.desk) _ (log_awake (raft_steps.Arrives message))
    up_takes (Service message) = up_steps (Arrives message)

after_awake : (w : World) (i : ℕ) (q : Result ServerTurn Refusal) → Awake q → Awake (after_turn w i q)
after_awake w i (Ok turn) h = tt
after_awake w i (Err r) h = h

after_client_awake : (w : World) (c : ℕ) (q : Result agents.AgentTurn Refusal) → Awake q → Awake (after_client w c q)
after_client_awake w c (Ok turn) h = tt
after_client_awake w c (Err r) h = h

-- ---- an input of a server's own

absent_takes : (w : World) (i : ℕ) (x : Input) → slice_get w.servers i ≡ None → own_input w i x ≡ Err refusals.OutOfRange
absent_takes w i (Arrives message) gone = ap (λ o. Err (refuses_message_at o)) gone
absent_takes w i x gone = ap (λ o. input_to w i x o) gone

module _ (w : World) (i : ℕ) (s : Server) (here : slice_get w.servers i ≡ Some s) where
  sleeping : (h : Handing) → is_up s.raft.mode ≡ false → restarts_server h ≡ false → own_input w i (server_input h) ≡ Err refusals.Down
  sleeping (FrameBytes bytes) down other = ap (λ o. Err (refuses_message_at o)) here ∙ rw down refl
  sleeping (OwnInput (Arrives message)) down other = ap (λ o. Err (refuses_message_at o)) here ∙ rw down refl
  sleeping (OwnInput Restart) down other = absurd (cc)
  sleeping (OwnInput x) down other = ap (λ o. input_to w i x o) here ∙ rw down refl

  -- a frame is no input of its own
  no_own : (h : Handing) → comes_as_frame h ≡ true → is_up s.raft.mode ≡ true → own_input w i (server_input h) ≡ Err refusals.OutOfRange
  no_own (FrameBytes bytes) frame up = ap (λ o. Err (refuses_message_at o)) here ∙ rw up refl
  no_own (OwnInput x) frame up = absurd (cc)

  restart_awake : (up : Bool) → is_up s.raft.mode ≡ up → Awake (step (length w.servers) i s Restart)
  restart_awake true is = up_steps (length w.servers) i s is Restart
  restart_awake false is = let q = woken (length w.servers) i s is in subst (λ r. Awake r) (sym q.1) tt

  taken_awake : (x : Input) → Awake (step (length w.servers) i s x) → Awake (takes_input w i x)
  taken_awake x awake = subst (λ o. Awake (input_to w i x o)) (sym here) (after_awake w i (step (length w.servers) i s x) awake)

  own_awake : (h : Handing) → comes_as_frame h ≡ false → (is_up s.raft.mode ≡ true) ⊎ (restarts_server h ≡ true) → Awake (own_input w i (server_input h))
  own_awake (FrameBytes bytes) other up = absurd (cc)
  own_awake (OwnInput (Arrives message)) other (inl up) = subst (λ o. Awake (let q : Result World Refusal = Err (refuses_message_at o) in q)) (sym here) (rw up (λ e. cc))
  own_awake (OwnInput (Arrives message)) other (inr so) = absurd (cc)
  own_awake (OwnInput Restart) other up = taken_awake Restart (restart_awake (is_up s.raft.mode) refl)
  own_awake (OwnInput x) other (inl up) = taken_awake x (up_steps (length w.servers) i s up x)
  own_awake (OwnInput x) other (inr so) = absurd (cc)

-- an input that is no frame is no arrival
no_arrival : (i : ℕ) (given : ServerInput) → comes_as_frame (handing given) ≡ false → IsNoArrival (AtServer i (server_input (handing given)))
no_arrival i (inputs.Frame bytes) other = absurd (cc)
no_arrival i given other = tt

module _ (view : GroupView) (i : ℕ) where
  pub server_absent : (h : Handing) → slice_get view.servers i ≡ None → RefusesGroupEvent view (AtServer i (server_input h)) refusals.OutOfRange
  server_absent h gone past w r = let st = r.refines in absent_takes w i (server_input h) (zip_none RefinesServer view.servers w.servers i st.servers gone)

  module _ (here : ServerView) (role : Option Role) (at : slice_get view.servers i ≡ Some here) (says : (s : Server) → RefinesServer here s → role ≡ role_of s.raft.mode) where
    pub server_sleeps : (h : Handing) → is_some role ≡ false → restarts_server h ≡ false → RefusesGroupEvent view (AtServer i (server_input h)) refusals.Down
    server_sleeps h none other past w r =
        let st = r.refines in
        let s = zip_at RefinesServer view.servers w.servers i here st.servers at in
        sleeping w i s.0 s.1 h (asleep s.0.raft.mode (ap is_some (sym (says s.0 s.2)) ∙ none)) other

    -- what the role says of a server of the definitions
    up_or : (h : Handing) (s : Server) → RefinesServer here s → (is_some role ≡ true) ⊎ (restarts_server h ≡ true) → (is_up s.raft.mode ≡ true) ⊎ (restarts_server h ≡ true)
    up_or h s is (inl some) = inl (awake_role s.raft.mode (ap is_some (sym (says s is)) ∙ some))
    up_or h s is (inr so) = inr so

    is_no_frame : (w : World) (s : Server) → slice_get w.servers i ≡ Some s → (h : Handing) → comes_as_frame h ≡ true → (is_up s.raft.mode ≡ true) ⊎ (restarts_server h ≡ true) → own_input w i (server_input h) ≡ Err refusals.OutOfRange
    is_no_frame w s there h frame (inl up) = no_own w i s there h frame up
    is_no_frame w s there (FrameBytes bytes) frame (inr so) = absurd (cc)
    is_no_frame w s there (OwnInput x) frame (inr so) = absurd (cc)

    pub frame_is_none : (h : Handing) → comes_as_frame h ≡ true → (is_some role ≡ true) ⊎ (restarts_server h ≡ true) → RefusesGroupEvent view (AtServer i (server_input h)) refusals.OutOfRange
    frame_is_none h frame up past w r =
        let st = r.refines in
        let s = zip_at RefinesServer view.servers w.servers i here st.servers at in
        is_no_frame w s.0 s.1 h frame (up_or h s.0 s.2 up)

    -- a server that is up does not refuse for being down, nor does one that is to restart
    pub server_awake : (given : ServerInput) → comes_as_frame (handing given) ≡ false → (is_some role ≡ true) ⊎ (restarts_server (handing given) ≡ true) → IsGroupAwake view (AtServer i (server_input (handing given)))
    server_awake given other up past w r =
        let h = handing given in
        let st = r.refines in
        let s = zip_at RefinesServer view.servers w.servers i here st.servers at in
        record {
          crash = AtServer i Crash;
          actor = refl;
          there = get-within w.servers i s.0 s.1;
          own = no_arrival i given other;
          awake = awake_is (own_input w i (server_input h)) (own_awake w i s.0 s.1 h other (up_or h s.0 s.2 up));
        }

-- ---- an input of a client's own

clients_match : (cs : List AgentView) (c : ℕ) → client_at (map client_in cs) c ≡ option_map client_in (client_view cs c)
clients_match cs zero = refl
clients_match cs (suc k) = slice_get-map client_in cs k

pub client_within : (cs : List AgentView) (c : ℕ) (a : AgentView) → client_view cs c ≡ Some a → c ≤ length cs
client_within cs zero a at = absurd (cc)
client_within cs (suc k) a at = let inside : k < length cs = get-within cs k a at in omega arith

-- the client of the definitions at the place of one of the value
client_of_view : (view : GroupView) (w : World) (c : ℕ) → RefinesGroup view w → client_at w.clients c ≡ option_map client_in (client_view view.clients c)
client_of_view view w c st = subst (λ cs. client_at cs c ≡ option_map client_in (client_view view.clients c)) st.clients (clients_match view.clients c)

absent_client_takes : (w : World) (c : ℕ) (x : agents.Input) → client_at w.clients c ≡ None → own_client_input w c x ≡ Err refusals.OutOfRange
absent_client_takes w c (agents.Arrives from response) gone = ap (λ o. Err (refuses_response_at o)) gone
absent_client_takes w c x gone = ap (λ o. client_input_to w c x o) gone

no_life : (n : ℕ) (x : Agent) (life : Option Life) (given : ClientInput) → is_some life ≡ false → restarts_client given ≡ false → agents.step_of n x life (client_input given) ≡ Err refusals.Down
no_life n x (Some l) given down other = absurd (cc down)
no_life n x None client_inputs.Restart down other = absurd (cc other)
no_life n x None given down other = refl

lives_awake : (n : ℕ) (x : Agent) (life : Option Life) (given : ClientInput) → is_client_frame given ≡ false → (is_some life ≡ true) ⊎ (restarts_client given ≡ true) → Awake (agents.step_of n x life (client_input given))
lives_awake n x life (client_inputs.Frame bytes) other up = absurd (cc other)
lives_awake n x (Some l) (client_inputs.Register server) other up = awake_if (nat_lt server n) _ _ tt (λ e. cc)
lives_awake n x (Some l) (client_inputs.Ping server) other up = awake_if (nat_lt server n) _ _ tt (λ e. cc)
lives_awake n x (Some l) (client_inputs.Pull server) other up = awake_if (nat_lt server n) _ _ tt (λ e. cc)
lives_awake n x (Some l) (client_inputs.End id ok) other up = awake_if (agents.runs l.running id) _ _ tt (λ e. cc)
lives_awake n x (Some l) client_inputs.Crash other up = tt
lives_awake n x (Some l) client_inputs.Restart other up = λ e. cc
lives_awake n x None client_inputs.Restart other up = tt
lives_awake n x None given other (inl up) = absurd (cc up)
lives_awake n x None given other (inr so) = absurd (cc so)

module _ (w : World) (c : ℕ) (x : Agent) (here : client_at w.clients c ≡ Some x) where
  client_sleeping : (given : ClientInput) → is_some x.life ≡ false → restarts_client given ≡ false → own_client_input w c (client_input given) ≡ Err refusals.Down
  client_sleeping (client_inputs.Frame bytes) down other = ap (λ o. Err (refuses_response_at o)) here ∙ rw down refl
  client_sleeping given down other = ap (λ o. client_input_to w c (client_input given) o) here ∙ ap (λ q. after_client w c q) (no_life (length w.servers) x x.life given down other)

  no_own_response : (given : ClientInput) → is_client_frame given ≡ true → (is_some x.life ≡ true) ⊎ (restarts_client given ≡ true) → own_client_input w c (client_input given) ≡ Err refusals.OutOfRange
  no_own_response (client_inputs.Frame bytes) frame (inl up) = ap (λ o. Err (refuses_response_at o)) here ∙ rw up refl
  no_own_response (client_inputs.Frame bytes) frame (inr so) = absurd (cc so)
  no_own_response given frame up = absurd (cc frame)

  own_client_awake : (given : ClientInput) → is_client_frame given ≡ false → (is_some x.life ≡ true) ⊎ (restarts_client given ≡ true) → Awake (own_client_input w c (client_input given))
  own_client_awake (client_inputs.Frame bytes) other up = absurd (cc other)
  own_client_awake given other up =
      subst (λ o. Awake (client_input_to w c (client_input given) o)) (sym here) (after_client_awake w c _ (lives_awake (length w.servers) x x.life given other up))

no_response : (c : ℕ) (given : ClientInput) → is_client_frame given ≡ false → IsNoArrival (AtClient c (client_input given))
no_response c (client_inputs.Frame bytes) other = absurd (cc other)
no_response c given other = tt

-- where one stands its number is within the list
client_has : (cs : List Agent) (c : ℕ) (x : Agent) → client_at cs c ≡ Some x → (1 ≤ c) × (c ≤ length cs)
client_has cs zero x at = absurd (cc)
client_has cs (suc k) x at = let inside : k < length cs = get-within cs k x at in (omega arith, omega arith)

module _ (view : GroupView) (c : ℕ) where
  pub client_absent : (given : ClientInput) → client_view view.clients c ≡ None → RefusesGroupEvent view (AtClient c (client_input given)) refusals.OutOfRange
  client_absent given gone past w r = absent_client_takes w c (client_input given) (client_of_view view w c r.refines ∙ ap (λ o. option_map client_in o) gone)

  module _ (here : AgentView) (at : client_view view.clients c ≡ Some here) where
    client_there : (w : World) → RefinesGroup view w → client_at w.clients c ≡ Some here.client
    client_there w st = client_of_view view w c st ∙ ap (λ o. option_map client_in o) at

    pub client_sleeps : (given : ClientInput) → is_some here.client.life ≡ false → restarts_client given ≡ false → RefusesGroupEvent view (AtClient c (client_input given)) refusals.Down
    client_sleeps given down other past w r = client_sleeping w c here.client (client_there w r.refines) given down other

    pub response_is_none : (given : ClientInput) → is_client_frame given ≡ true → (is_some here.client.life ≡ true) ⊎ (restarts_client given ≡ true) → RefusesGroupEvent view (AtClient c (client_input given)) refusals.OutOfRange
    response_is_none given frame up past w r = no_own_response w c here.client (client_there w r.refines) given frame up

    pub client_awake : (given : ClientInput) → is_client_frame given ≡ false → (is_some here.client.life ≡ true) ⊎ (restarts_client given ≡ true) → IsGroupAwake view (AtClient c (client_input given))
    client_awake given other up past w r = record {
      crash = AtClient c agents.Crash;
      actor = refl;
      there = client_has w.clients c here.client (client_there w r.refines);
      own = no_response c given other;
      awake = awake_is (own_client_input w c (client_input given)) (own_client_awake w c here.client (client_there w r.refines) given other up);
    }

-- ---- what comes

-- there is no such message
pub nothing_comes : (view : GroupView) (place : ℕ) → slice_get view.outbox.frames place ≡ None → RefusesGroupEvent view (Deliver place) refusals.OutOfRange
nothing_comes view place gone past w r =
    let st = r.refines in
    ap (λ o. delivers w o) (zip_none (CarriesGroup cluster_spec) view.outbox.frames w.sent place st.sent gone)

lost : (w : World) (i : ℕ) (x : GroupMessage) → receiver_of x ≡ actors.Server i → slice_get w.servers i ≡ None → delivers_message w x ≡ Err refusals.OutOfRange
lost w i (OfLog message) to gone = ap (λ k. message_to w k message (slice_get w.servers k)) (same_server to) ∙ ap (λ o. message_to w i message o) gone
lost w i (Service (BetweenServers from j message)) to gone =
    let x : Input = Arrives (BetweenServers from j message) in
    ap (λ k. input_to w k x (slice_get w.servers k)) (same_server to) ∙ ap (λ o. input_to w i x o) gone
lost w i (Service (ToServer client j request)) to gone =
    let x : Input = Arrives (ToServer client j request) in
    ap (λ k. input_to w k x (slice_get w.servers k)) (same_server to) ∙ ap (λ o. input_to w i x o) gone
lost w i (Service (ToClient j client response)) to gone = absurd (cc to)

module _ (view : GroupView) (place i : ℕ) (sent : IsSentTo view.outbox.frames place (actors.Server i)) where
  message : (w : World) → RefinesGroup view w → Comes view.outbox.frames place w (actors.Server i)
  message w st = comes view.outbox.frames place w (actors.Server i) st.sent sent

  pub receiver_absent : slice_get view.servers i ≡ None → RefusesGroupEvent view (Deliver place) refusals.OutOfRange
  receiver_absent gone past w r =
      let st = r.refines in
      let m = message w st in
      ap (λ o. delivers w o) m.at ∙ lost w i m.message m.is_to (zip_none RefinesServer view.servers w.servers i st.servers gone)

  module _ (here : ServerView) (role : Option Role) (at : slice_get view.servers i ≡ Some here) (says : (s : Server) → RefinesServer here s → role ≡ role_of s.raft.mode) where
    pub receiver_sleeps : is_some role ≡ false → RefusesGroupEvent view (Deliver place) refusals.Down
    receiver_sleeps none past w r =
        let st = r.refines in
        let m = message w st in
        let s = zip_at RefinesServer view.servers w.servers i here st.servers at in
        let f = is_for w i s.0 s.1 m.message m.is_to in
        ap (λ o. delivers w o) m.at ∙ f.happens ∙ ap (λ q. after_turn w i q) (down_takes (length w.servers) i s.0 m.message (asleep s.0.raft.mode (ap is_some (sym (says s.0 s.2)) ∙ none)))

    pub receiver_awake : is_some role ≡ true → IsGroupAwake view (Deliver place)
    receiver_awake some past w r =
        let st = r.refines in
        let m = message w st in
        let s = zip_at RefinesServer view.servers w.servers i here st.servers at in
        let f = is_for w i s.0 s.1 m.message m.is_to in
        let up : is_up s.0.raft.mode ≡ true = awake_role s.0.raft.mode (ap is_some (sym (says s.0 s.2)) ∙ some) in
        record {
          crash = AtServer i Crash;
          actor = ap (λ o. crash_of_message o) m.at ∙ f.crash;
          there = get-within w.servers i s.0 s.1;
          own = tt;
          awake = awake_is (delivers w (slice_get w.sent place))
              (subst (λ q. Awake q) (sym (ap (λ o. delivers w o) m.at ∙ f.happens)) (after_awake w i _ (up_takes (length w.servers) i s.0 up m.message)));
        }

module _ (view : GroupView) (place c : ℕ) (sent : IsSentTo view.outbox.frames place (actors.Client c)) where
  -- a response comes
  record Responds (w : World) : Type 0 where
    from : ℕ
    response : ClientResponse
    is : happens w (Deliver place) ≡ client_takes w c (agents.Arrives from response)
    crash : crash_of_message (slice_get w.sent place) ≡ Some (AtClient c agents.Crash)

  responds : (w : World) → RefinesGroup view w → Responds w
  responds w st =
      let m = comes view.outbox.frames place w (actors.Client c) st.sent sent in
      let q = for_client m.message c m.is_to in
      let at : slice_get w.sent place ≡ Some (Service (ToClient q.0 c q.1)) = m.at ∙ ap (λ x. Some x) q.2 in
      record { from = q.0; response = q.1; is = ap (λ o. delivers w o) at; crash = ap (λ o. crash_of_message o) at }

  pub client_receiver_absent : client_view view.clients c ≡ None → RefusesGroupEvent view (Deliver place) refusals.OutOfRange
  client_receiver_absent gone past w r =
      let m = responds w r.refines in
      let input : agents.Input = agents.Arrives m.from m.response in
      m.is ∙ ap (λ o. client_input_to w c input o) (client_of_view view w c r.refines ∙ ap (λ o. option_map client_in o) gone)

  module _ (here : AgentView) (at : client_view view.clients c ≡ Some here) where
    comes_there : (w : World) (st : RefinesGroup view w) → let m = responds w st in happens w (Deliver place) ≡ after_client w c (agents.step_of (length w.servers) here.client here.client.life (agents.Arrives m.from m.response))
    comes_there w st =
        let m = responds w st in
        let input : agents.Input = agents.Arrives m.from m.response in
        m.is ∙ ap (λ o. client_input_to w c input o) (client_there view c here at w st)

    pub client_receiver_sleeps : is_some here.client.life ≡ false → RefusesGroupEvent view (Deliver place) refusals.Down
    client_receiver_sleeps down past w r =
        let m = responds w r.refines in
        comes_there w r.refines ∙ ap (λ q. after_client w c q) (down_hears (length w.servers) here.client here.client.life m.from m.response down)

    hears_awake : (n : ℕ) (life : Option Life) (from : ℕ) (response : ClientResponse) → is_some life ≡ true → Awake (agents.step_of n here.client life (agents.Arrives from response))
    hears_awake n (Some l) from response up = tt
    hears_awake n None from response up = absurd (cc up)

    pub client_receiver_awake : is_some here.client.life ≡ true → IsGroupAwake view (Deliver place)
    client_receiver_awake up past w r =
        let m = responds w r.refines in
        record {
          crash = AtClient c agents.Crash;
          actor = m.crash;
          there = client_has w.clients c here.client (client_there view c here at w r.refines);
          own = tt;
          awake = awake_is (happens w (Deliver place)) (subst (λ q. Awake q) (sym (comes_there w r.refines)) (after_client_awake w c _ (hears_awake (length w.servers) here.client.life m.from m.response up)));
        }
