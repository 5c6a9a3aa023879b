-- The group's world carries its processes.
use Rattle.std.proofs.Common.{◌≡◌, ◌≢◌, ℕ, zero, suc, ◌⊎◌, ◌<◌, inl, inr, true, Option, Some, None, Ok, List, [], ◌∷◌, ◌++◌, map, replicate, refl, sym, ap, ◌∙◌, subst, arith, slice_get, slice_set}
use Rattle.std.proofs.lemmas.List.{length-replicate}
use Rattle.std.proofs.lemmas.Bool.Decides.{eqb_tells}
use Rattle.rows.specs.declared.node.NodeSpec.{NodeSpec}
use Rattle.rows.specs.declared.command.Command.{Command}
use Rattle.raft_model.specs.Messages.{Message}
use Rattle.raft_model.specs.Rafts.{is_up, silent, crashed}
use Rattle.raft_model.specs.Steps as raft_steps
use Rattle.fsm_model.specs.ClusterMachine.{cluster_spec}
use Rattle.raft_safety.proofs.Places.{get_set-same, get-within, set-length}
use Rattle.group_model.specs.Messages.{GroupMessage, OfLog, Service, ServiceMessage, BetweenServers, ToServer, ToClient}
use Rattle.group_model.specs.Inputs as inputs
use Rattle.group_model.specs.Servers as servers
use Rattle.group_model.specs.Servers.{Server}
use Rattle.group_model.specs.Agents as agents
use Rattle.group_model.specs.Agents.{Agent, Life, new_life}
use Rattle.group_model.specs.Worlds.{World, Event, Deliver, AtServer, AtClient, start, more, first, IsEvent, happens, delivers, delivers_service, message_to, input_to, after_turn, takes_input, own_input, client_takes, client_input_to, after_client, own_client_input, client_at, with_client, agents_from, event_at, asked_of, raft_input, raft_service, raft_delivery, LogEventFits}
use Rattle.processes.specs.Claims.{OccursIn}
use Rattle.processes.proofs.Simulated.{OneEvent, IsSimulated}
use Rattle.processes.specs.Logs as logs
use Rattle.processes.specs.Groups as groups
use Rattle.processes.proofs.Logs.{get_set-other}
use Rattle.processes.proofs.Fine.{Fine}
use Rattle.processes.proofs.Rising.{takes_up}

client_same : (cs : List Agent) (c : ℕ) (x y : Agent) → client_at cs c ≡ Some x → client_at (with_client cs c y) c ≡ Some y
client_same cs zero x y h = absurd (cc)
client_same cs (suc c) x y h = get_set-same cs c y (get-within cs c x h)

client_other : (cs : List Agent) (c : ℕ) (y : Agent) (d : ℕ) → d ≢ c → client_at (with_client cs c y) d ≡ client_at cs d
client_other cs zero y d h = refl
client_other cs (suc c) y zero h = refl
client_other cs (suc c) y (suc d) h = get_set-other cs c y d (λ e. h (ap suc e))

-- names
pub same_name : (j k : groups.Who) → (j ≡ k) ⊎ (j ≢ k)
same_name (groups.ServerOf i) (groups.ServerOf j) = elim (eqb_tells i j) [ inl e ↦ inl (ap groups.ServerOf e.1) | inr e ↦ inr (λ q. e.1 cc) ]
same_name (groups.ServerOf i) (groups.ClientOf c) = inr (λ q. cc)
same_name (groups.ClientOf c) (groups.ServerOf i) = inr (λ q. cc)
same_name (groups.ClientOf c) (groups.ClientOf d) = elim (eqb_tells c d) [ inl e ↦ inl (ap groups.ClientOf e.1) | inr e ↦ inr (λ q. e.1 cc) ]

-- what an actor is
pub server_is : (x : Option Server) (s : Server) → groups.as_server x ≡ Some (groups.GroupServer s) → x ≡ Some s
server_is None s h = absurd (cc)
server_is (Some t) s h = cc

pub client_is : (x : Option Agent) (c : Agent) → groups.as_client x ≡ Some (groups.GroupClient c) → x ≡ Some c
client_is None c h = absurd (cc)
client_is (Some t) c h = cc

module _ (n : ℕ) (nodes : List NodeSpec) where
  abbrev One : List Event → List World → World → groups.Who → groups.GroupActor → List GroupMessage → Type 0
  One events past w k b out = OneEvent (groups.group_actors n nodes) (groups.group_abstraction n nodes) groups.stopped_by events past w k b out

  module _ (events : List Event) (past : List World) (w : World) (reach : groups.GroupReaches n nodes events past w) where
    -- one event at a server
    server_more : (i : ℕ) (s : Server) (b : Server) (out : List GroupMessage) (e : Event) → slice_get w.servers i ≡ Some s → IsEvent w e →
        happens w e ≡ Ok (record w { servers = slice_set w.servers i b; sent = w.sent ++ out }) → One events past w (groups.ServerOf i) (groups.GroupServer b) out
    server_more i s b out e here is h = record {
      event = e;
      next = record w { servers = slice_set w.servers i b; sent = w.sent ++ out };
      reach = (more e (record w { servers = slice_set w.servers i b; sent = w.sent ++ out }) reach.0 is h, set-length w.servers i b ∙ reach.1);
      here = ap groups.as_server (get_set-same w.servers i b (get-within w.servers i s here));
      others = others;
      sent_is = refl;
    }
      where
        others : (j : groups.Who) → j ≢ groups.ServerOf i → groups.actor_named (record w { servers = slice_set w.servers i b; sent = w.sent ++ out }) j ≡ groups.actor_named w j
        others (groups.ServerOf j) other = ap groups.as_server (get_set-other w.servers i b j (λ q. other (ap groups.ServerOf q)))
        others (groups.ClientOf c) other = refl

    -- one event at a client
    client_more : (c : ℕ) (x b : Agent) (out : List GroupMessage) (e : Event) → client_at w.clients c ≡ Some x → IsEvent w e →
        happens w e ≡ Ok (record w { clients = with_client w.clients c b; sent = w.sent ++ out }) → One events past w (groups.ClientOf c) (groups.GroupClient b) out
    client_more c x b out e here is h = record {
      event = e;
      next = record w { clients = with_client w.clients c b; sent = w.sent ++ out };
      reach = (more e (record w { clients = with_client w.clients c b; sent = w.sent ++ out }) reach.0 is h, reach.1);
      here = ap groups.as_client (client_same w.clients c x b here);
      others = others;
      sent_is = refl;
    }
      where
        others : (j : groups.Who) → j ≢ groups.ClientOf c → groups.actor_named (record w { clients = with_client w.clients c b; sent = w.sent ++ out }) j ≡ groups.actor_named w j
        others (groups.ServerOf j) other = refl
        others (groups.ClientOf d) other = ap groups.as_client (client_other w.clients c b d (λ q. other (ap groups.ClientOf q)))

    -- a server's input
    takes_is : (i : ℕ) (s : Server) (input : inputs.Input) (turn : servers.ServerTurn) → slice_get w.servers i ≡ Some s → servers.step n i s input ≡ Ok turn →
        takes_input w i input ≡ Ok (record w { servers = slice_set w.servers i turn.server; sent = w.sent ++ turn.sent })
    takes_is i s input turn here h = ap (input_to w i input) here ∙ ap (after_turn w i) (subst (λ k. servers.step k i s input ≡ Ok turn) (sym reach.1) h)

    fits_is : (i : ℕ) (s : Server) (input : inputs.Input) → slice_get w.servers i ≡ Some s → groups.ProposalFits n i s input → LogEventFits (raft_input w i input)
    fits_is i s input here fits = subst (λ x. LogEventFits (event_at i (asked_of w i input x))) (sym here) (subst (λ k. groups.ProposalFits k i s input) (sym reach.1) fits)

    own_is : (i : ℕ) (input : inputs.Input) → groups.IsServersOwn input → own_input w i input ≡ takes_input w i input
    own_is i (inputs.Arrives message) own = absurd own
    own_is i inputs.Timeout own = refl
    own_is i inputs.Beat own = refl
    own_is i (inputs.Request request) own = refl
    own_is i (inputs.TakeFrom to) own = refl
    own_is i (inputs.SubmitTo to plan) own = refl
    own_is i (inputs.FinishAt to eval token outcome) own = refl
    own_is i (inputs.NackAt to eval token) own = refl
    own_is i inputs.PlanTurn own = refl
    own_is i (inputs.Lapse eval) own = refl
    own_is i (inputs.Expire node beats) own = refl
    own_is i (inputs.DrainTurn node) own = refl
    own_is i inputs.FreeTurn own = refl
    own_is i inputs.Reap own = refl
    own_is i inputs.Compact own = refl
    own_is i inputs.Crash own = absurd own
    own_is i inputs.Restart own = absurd own

    -- a client's input
    client_takes_is : (c : ℕ) (x : Agent) (input : agents.Input) (turn : agents.AgentTurn) → client_at w.clients c ≡ Some x → agents.step n x input ≡ Ok turn →
        client_takes w c input ≡ Ok (record w { clients = with_client w.clients c turn.client; sent = w.sent ++ map Service turn.sent })
    client_takes_is c x input turn here h = ap (client_input_to w c input) here ∙ ap (after_client w c) (subst (λ k. agents.step k x input ≡ Ok turn) (sym reach.1) h)

    client_own_is : (c : ℕ) (input : agents.Input) → groups.IsClientsOwn input → own_client_input w c input ≡ client_takes w c input
    client_own_is c (agents.Arrives from response) own = absurd own
    client_own_is c (agents.RegisterAt server) own = refl
    client_own_is c (agents.Ping server) own = refl
    client_own_is c (agents.PullFrom server) own = refl
    client_own_is c (agents.End id ok) own = refl
    client_own_is c agents.Crash own = absurd own
    client_own_is c agents.Restart own = absurd own

    -- a message of the log
    log_does : (i : ℕ) (s : Server) (message : Message Command) (turn : servers.ServerTurn) → slice_get w.servers i ≡ Some s → OccursIn w.sent (OfLog message) → message.to ≡ i →
        servers.takes_log_message n i s message ≡ Ok turn → One events past w (groups.ServerOf i) (groups.GroupServer turn.server) turn.sent
    log_does i s message turn here among to h = server_more i s turn.server turn.sent (Deliver among.0) here
        (subst (λ x. LogEventFits (raft_delivery w among.0 x)) (sym among.1) tt)
        (ap (delivers w) among.1 ∙ (ap (λ k. message_to w k message (slice_get w.servers k)) to ∙ (ap (message_to w i message) here ∙ ap (after_turn w i) (subst (λ k. servers.takes_log_message k i s message ≡ Ok turn) (sym reach.1) h))))

    -- another message to a server
    service_is : (i : ℕ) (message : ServiceMessage) → groups.IsFor i message → (raft_service w message ≡ raft_input w i (inputs.Arrives message)) × (delivers_service w message ≡ takes_input w i (inputs.Arrives message))
    service_is i (BetweenServers from to message) is = subst (λ k. (raft_service w (BetweenServers from to message) ≡ raft_input w k (inputs.Arrives (BetweenServers from to message))) × (delivers_service w (BetweenServers from to message) ≡ takes_input w k (inputs.Arrives (BetweenServers from to message)))) is (refl, refl)
    service_is i (ToServer client server request) is = subst (λ k. (raft_service w (ToServer client server request) ≡ raft_input w k (inputs.Arrives (ToServer client server request))) × (delivers_service w (ToServer client server request) ≡ takes_input w k (inputs.Arrives (ToServer client server request)))) is (refl, refl)
    service_is i (ToClient server client response) is = absurd is

    service_does : (i : ℕ) (s : Server) (message : ServiceMessage) (turn : servers.ServerTurn) → slice_get w.servers i ≡ Some s → OccursIn w.sent (Service message) → groups.IsFor i message →
        groups.ProposalFits n i s (inputs.Arrives message) → servers.step n i s (inputs.Arrives message) ≡ Ok turn → One events past w (groups.ServerOf i) (groups.GroupServer turn.server) turn.sent
    service_does i s message turn here among is fits h =
        let q = service_is i message is in
        server_more i s turn.server turn.sent (Deliver among.0) here
        (subst (λ x. LogEventFits (raft_delivery w among.0 x)) (sym among.1) (subst (λ x. LogEventFits x) (sym q.0) (fits_is i s (inputs.Arrives message) here fits)))
        (ap (delivers w) among.1 ∙ (q.1 ∙ takes_is i s (inputs.Arrives message) turn here h))

    -- who takes an item makes an event
    does : (k : groups.Who) (a b : groups.GroupActor) (input : groups.Item) (out : List GroupMessage) → groups.actor_named w k ≡ Some a → groups.GroupTakes n w.sent k a input b out → One events past w k b out
    does k a b item out here (groups.log_comes i s message turn among to h) = log_does i s message turn (server_is _ s here) among to h
    does k a b item out here (groups.server_comes i s message turn among is fits h) = service_does i s message turn (server_is _ s here) among is fits h
    does k a b item out here (groups.client_comes c x server response turn among h) =
        client_more c x turn.client (map Service turn.sent) (Deliver among.0) (client_is _ x here)
        (subst (λ x. LogEventFits (raft_delivery w among.0 x)) (sym among.1) tt)
        (ap (delivers w) among.1 ∙ client_takes_is c x (agents.Arrives server response) turn (client_is _ x here) h)
    does k a b item out here (groups.server_own i s input turn own fits h) =
        server_more i s turn.server turn.sent (AtServer i input) (server_is _ s here) (fits_is i s input (server_is _ s here) fits) (own_is i input own ∙ takes_is i s input turn (server_is _ s here) h)
    does k a b item out here (groups.client_own c x input turn own h) =
        client_more c x turn.client (map Service turn.sent) (AtClient c input) (client_is _ x here) tt (client_own_is c input own ∙ client_takes_is c x input turn (client_is _ x here) h)

    -- a crash
    server_falls : (i : ℕ) (s : Server) → slice_get w.servers i ≡ Some s → is_up s.raft.mode ≡ true → One events past w (groups.ServerOf i) (groups.stopped_by (groups.store_of (groups.GroupServer s))) []
    server_falls i s here up =
        let turn : servers.ServerTurn = record { server = record { raft = crashed s.raft; desk = None }; sent = []; work = [] } in
        let decided : servers.decides n i s inputs.Crash ≡ Ok (inputs.asks inputs.AskCrash s.desk) = rw up refl in
        let stepped : raft_steps.step cluster_spec n i s.raft raft_steps.Crash ≡ Ok (silent (crashed s.raft)) = rw up refl in
        server_more i s (record { raft = crashed s.raft; desk = None }) [] (AtServer i inputs.Crash) here (fits_is i s inputs.Crash here (rw up tt)) (takes_is i s inputs.Crash turn here (ap (servers.done n i s) decided ∙ ap (servers.logged s (inputs.asks inputs.AskCrash s.desk)) stepped))

    client_falls : (c : ℕ) (x : Agent) (life : Option Life) → x.life ≡ life → client_at w.clients c ≡ Some x →
        (groups.GroupClient x ≡ groups.stopped_by (groups.store_of (groups.GroupClient x))) ⊎ One events past w (groups.ClientOf c) (groups.stopped_by (groups.store_of (groups.GroupClient x))) []
    client_falls c x None e here = inl (ap (λ l. groups.GroupClient (record { node = x.node; started = x.started; life = l })) e)
    client_falls c x (Some l) e here =
        let turn : agents.AgentTurn = record { client = record x { life = None }; sent = [] } in
        inr (client_more c x (record x { life = None }) [] (AtClient c agents.Crash) here tt (client_takes_is c x agents.Crash turn here (ap (λ y. agents.step_of n x y agents.Crash) e)))

    crashes : (k : groups.Who) (a : groups.GroupActor) → groups.actor_named w k ≡ Some a → Fine a → (a ≡ groups.stopped_by (groups.store_of a)) ⊎ One events past w k (groups.stopped_by (groups.store_of a)) []
    crashes (groups.ServerOf i) (groups.GroupServer s) here up = inr (server_falls i s (server_is _ s here) up)
    crashes (groups.ServerOf i) (groups.GroupClient x) here fine = absurd (no_server (slice_get w.servers i) x here)
      where
        no_server : (y : Option Server) (x : Agent) → groups.as_server y ≡ Some (groups.GroupClient x) → ⊥
        no_server None x h = cc
        no_server (Some s) x h = cc
    crashes (groups.ClientOf c) (groups.GroupServer s) here fine = absurd (no_client (client_at w.clients c) s here)
      where
        no_client : (y : Option Agent) (s : Server) → groups.as_client y ≡ Some (groups.GroupServer s) → ⊥
        no_client None s h = cc
        no_client (Some x) s h = cc
    crashes (groups.ClientOf c) (groups.GroupClient x) here fine = client_falls c x x.life refl (client_is _ x here)

    -- a restart
    server_wakes : (i : ℕ) (p : logs.Persistent Command) → slice_get w.servers i ≡ Some (record { raft = logs.stopped p; desk = None }) → One events past w (groups.ServerOf i) (groups.begun_by (groups.OfServer p)) []
    server_wakes i p here =
        let s : Server = record { raft = logs.stopped p; desk = None } in
        let turn : servers.ServerTurn = record { server = record { raft = logs.started p; desk = None }; sent = []; work = [] } in
        server_more i s (record { raft = logs.started p; desk = None }) [] (AtServer i inputs.Restart) here (fits_is i s inputs.Restart here tt) (takes_is i s inputs.Restart turn here refl)

    client_wakes : (c : ℕ) (node : NodeSpec) (ids : List _) → client_at w.clients c ≡ Some (record { node = node; started = ids; life = None }) → One events past w (groups.ClientOf c) (groups.begun_by (groups.OfClient node ids)) []
    client_wakes c node ids here =
        let x : Agent = record { node = node; started = ids; life = None } in
        let turn : agents.AgentTurn = record { client = record { node = node; started = ids; life = Some new_life }; sent = [] } in
        client_more c x (record { node = node; started = ids; life = Some new_life }) [] (AtClient c agents.Restart) here tt (client_takes_is c x agents.Restart turn here refl)

    restarts : (k : groups.Who) (p : groups.GroupStore) → groups.actor_named w k ≡ Some (groups.stopped_by p) → One events past w k (groups.begun_by p) []
    restarts (groups.ServerOf i) (groups.OfServer p) here = server_wakes i p (server_is _ _ here)
    restarts (groups.ServerOf i) (groups.OfClient node ids) here = absurd (no_server (slice_get w.servers i) _ here)
      where
        no_server : (y : Option Server) (x : Agent) → groups.as_server y ≡ Some (groups.GroupClient x) → ⊥
        no_server None x h = cc
        no_server (Some s) x h = cc
    restarts (groups.ClientOf c) (groups.OfServer p) here = absurd (no_client (client_at w.clients c) _ here)
      where
        no_client : (y : Option Agent) (s : Server) → groups.as_client y ≡ Some (groups.GroupServer s) → ⊥
        no_client None s h = cc
        no_client (Some x) s h = cc
    restarts (groups.ClientOf c) (groups.OfClient node ids) here = client_wakes c node ids (client_is _ _ here)

  -- what may come may come where more left
  grows : (left sent : List GroupMessage) (k : groups.Who) (a b : groups.GroupActor) (input : groups.Item) (out : List GroupMessage) → ((x : GroupMessage) → OccursIn left x → OccursIn sent x) →
      groups.GroupTakes n left k a input b out → groups.GroupTakes n sent k a input b out
  grows left sent k a b item out on (groups.log_comes i s message turn among to h) = groups.log_comes i s message turn (on _ among) to h
  grows left sent k a b item out on (groups.server_comes i s message turn among is fits h) = groups.server_comes i s message turn (on _ among) is fits h
  grows left sent k a b item out on (groups.client_comes c x server response turn among h) = groups.client_comes c x server response turn (on _ among) h
  grows left sent k a b item out on (groups.server_own i s input turn own fits h) = groups.server_own i s input turn own fits h
  grows left sent k a b item out on (groups.client_own c x input turn own h) = groups.client_own c x input turn own h

  fine_takes : (sent : List GroupMessage) (k : groups.Who) (a b : groups.GroupActor) (input : groups.Item) (out : List GroupMessage) → Fine a → groups.GroupTakes n sent k a input b out → Fine b
  fine_takes sent k a b item out fine (groups.log_comes i s message turn among to h) = takes_up n i s turn.server sent (groups.GroupServer s) (groups.GroupServer turn.server) item out fine (groups.log_comes i s message turn among to h) refl refl
  fine_takes sent k a b item out fine (groups.server_comes i s message turn among is fits h) = takes_up n i s turn.server sent (groups.GroupServer s) (groups.GroupServer turn.server) item out fine (groups.server_comes i s message turn among is fits h) refl refl
  fine_takes sent k a b item out fine (groups.client_comes c x server response turn among h) = tt
  fine_takes sent k a b item out fine (groups.server_own i s input turn own fits h) = takes_up n i s turn.server sent (groups.GroupServer s) (groups.GroupServer turn.server) item out fine (groups.server_own i s input turn own fits h) refl refl
  fine_takes sent k a b item out fine (groups.client_own c x input turn own h) = tt

  fine_begin : (p : groups.GroupStore) → Fine (groups.begun_by p)
  fine_begin (groups.OfServer p) = refl
  fine_begin (groups.OfClient node ids) = tt

  store_begin : (p : groups.GroupStore) → groups.store_of (groups.begun_by p) ≡ p
  store_begin (groups.OfServer p) = refl
  store_begin (groups.OfClient node ids) = refl

  -- before the first event
  newcomers : (k i : ℕ) → i < k → slice_get (replicate k servers.newcomer) i ≡ Some servers.newcomer
  newcomers zero i less = absurd (omega (arith, less))
  newcomers (suc k) zero less = refl
  newcomers (suc k) (suc i) less = newcomers k i (omega (arith, less))

  new_lives : (k : ℕ) (specs : List NodeSpec) (c : ℕ) (x : Agent) → slice_get (agents_from k specs) c ≡ Some x → x.life ≡ Some new_life
  new_lives k [] c x h = absurd (cc)
  new_lives k (node ∷ specs) zero x h = let e : agents.agent_of (record node { number = k }) ≡ x = cc in ap (λ (y : Agent). y.life) (sym e)
  new_lives k (node ∷ specs) (suc c) x h = new_lives (suc k) specs c x h

  client_life : (c : ℕ) (x : Agent) → client_at (agents_from 1 nodes) c ≡ Some x → x.life ≡ Some new_life
  client_life zero x h = absurd (cc)
  client_life (suc c) x h = new_lives 1 nodes c x h

  first_actor : (k : groups.Who) → groups.IsThere n nodes k → groups.actor_named (first n nodes) k ≡ Some (groups.begun_by (groups.stored_first nodes k))
  first_actor (groups.ServerOf i) less = ap groups.as_server (newcomers n i less)
  first_actor (groups.ClientOf c) there =
      let x = there.0 in
      subst (λ y. groups.as_client y ≡ Some (groups.begun_by (groups.stored_at_first y))) (sym there.1)
      (ap (λ l. Some (groups.GroupClient (record { node = x.node; started = x.started; life = l }))) (client_life c x there.1))

  pub is_simulated : IsSimulated (groups.group_actors n nodes) (groups.group_abstraction n nodes) groups.stopped_by Fine
  is_simulated = record {
    same_name = same_name;
    first = first n nodes;
    begins = (start, length-replicate n servers.newcomer);
    first_actor = first_actor;
    grows = grows;
    does = λ events past w k a b input out reach here t. does events past w reach k a b input out here t;
    crashes = λ events past w k a reach here fine. crashes events past w reach k a here fine;
    restarts = λ events past w k p reach here. restarts events past w reach k p here;
    store_begin = store_begin;
    fine_begin = fine_begin;
    fine_takes = fine_takes;
  }
