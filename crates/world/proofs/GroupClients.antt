-- What an event did to a client and to what is kept beside the actors, as what it did to the group.
use Rattle.std.proofs.Common.{◌≡◌, ◌≢◌, ℕ, zero, suc, Bool, true, false, cond, nat_lt, is_some, inl, inr, Option, Some, None, Result, Ok, Err, List, [], ◌∷◌, ◌++◌, length, map, append-nil, refl, sym, ap, ◌∙◌, subst, arith, ◌≤◌, slice_get, slice_set, get_or}
use Rattle.std.proofs.lemmas.Option.{slice_get_read}
use Rattle.std.specs.List.{AllZip}
use Rattle.rows.specs.declared.node.NodeSpec.{NodeSpec}
use Rattle.rows.specs.declared.refusal.Refusal.{Refusal}
use Rattle.rows.specs.declared.refusal.Refusal.TheVariants as refusals
use Rattle.rows.specs.declared.command.Command.{Command}
use Rattle.raft_model.specs.Messages.{Message}
use Rattle.raft_safety.specs.Claims.{IsGreatestCommit}
use Rattle.raft_safety.proofs.Places.{get_set-cases}
use Rattle.fsm_model.specs.ClusterMachine.{cluster_spec}
use Rattle.group_model.specs.Messages.{GroupMessage, OfLog, Service, ServiceMessage, BetweenServers, ToServer, ToClient, ClientResponse, Listing, Told}
use Rattle.group_model.specs.Inputs as inputs
use Rattle.group_model.specs.Servers as servers
use Rattle.group_model.specs.Servers.{Server}
use Rattle.group_model.specs.Agents as agents
use Rattle.group_model.specs.Agents.{Agent, Life}
use Rattle.group_model.specs.Worlds.{World, Event, Deliver, AtServer, AtClient, happens, after_turn, after_client, input_to, message_to, client_input_to, delivers, delivers_service, own_input, own_client_input, client_at, with_client, raft_of}
use Rattle.group_safety.specs.Claims.{SendersAreMembers, logs}
use Rattle.group_safety.specs.Limits.{EventFits, NodesFit, LimitedRun, LimitsAreKept}
use Rattle.group_safety.specs.Limits as limits
use Rattle.group_safety.proofs.Lists.{get_map, map_get, map_set, set_same}
use Rattle.group_frames.specs.GroupFrames.{CarriesGroup, SendsGroup}
use Rattle.group_inputs.specs.declared.client_input.ClientInput.{ClientInput}
use Rattle.client_agent.specs.AgentView.{AgentView}
use Rattle.server.specs.ServerViews.{ServerView, RefinesServer}
use Rattle.server.specs.declared.server.Outbox.{Outbox}
use Rattle.actor.specs.Refusals.{RefusedSo, ClientRefuses}
use Rattle.world.specs.declared.done.Done.{Done}
use Rattle.world.specs.declared.done.Done.TheVariants as done
use Rattle.rows.specs.GroupSizes.{IsGroup}
use Rattle.world.specs.GroupWork.{work_of}
use Rattle.world.specs.GroupView.{GroupView, RefinesGroup, GroupRunsTo, GroupInvariant, client_in, node_in, nodes_of, client_view}
use Rattle.world.specs.GroupSteps.{GroupEventHappened, SameView, RefusesGroupEvent, IsGroupAwake}
use Rattle.world.specs.Inner.GroupParts.{GroupHistoryView, ClientTook, ClientFell, ClientDone}
use Rattle.world.proofs.Zips.{zip_length, zip_append}
use Rattle.world.proofs.GroupScenes.{SendersIn, ClientTakes}
use Rattle.world.proofs.GroupHeights.{height_kept}
use Rattle.world.proofs.GroupServers.{history_of, GroupActed, same_group}

-- ---- no event changes a client's node

abbrev pub node_of : Agent → NodeSpec
node_of x = x.node

abbrev pub KeepsNode : Agent → Result agents.AgentTurn Refusal → Type 0
KeepsNode c (Ok turn) = turn.client.node ≡ c.node
KeepsNode c (Err r) = Unit {0}

keeps_if : (c : Agent) (b : Bool) (turn : agents.AgentTurn) (r : Refusal) → turn.client.node ≡ c.node → KeepsNode c (cond b (Ok turn) (Err r))
keeps_if c true turn r h = h
keeps_if c false turn r h = tt

node_if : (c : Agent) (b : Bool) (x y : agents.AgentTurn) → x.client.node ≡ c.node → y.client.node ≡ c.node → (cond b x y).client.node ≡ c.node
node_if c true x y h g = h
node_if c false x y h g = g

response_keeps : (c : Agent) (from : ℕ) (l : Life) (response : ClientResponse) → (agents.takes_response c from l response).client.node ≡ c.node
response_keeps c from l (Listing index rows) = node_if c (nat_lt index l.seen) _ _ refl refl
response_keeps c from l (Told kind refused) = refl

lives_keep : (n : ℕ) (c : Agent) (l : Life) (input : agents.Input) → KeepsNode c (agents.lives n c l input)
lives_keep n c l (agents.Arrives from response) = response_keeps c from l response
lives_keep n c l (agents.RegisterAt server) = keeps_if c (nat_lt server n) _ _ refl
lives_keep n c l (agents.Ping server) = keeps_if c (nat_lt server n) _ _ refl
lives_keep n c l (agents.PullFrom server) = keeps_if c (nat_lt server n) _ _ refl
lives_keep n c l (agents.End id ok) = keeps_if c (agents.runs l.running id) _ _ refl
lives_keep n c l agents.Crash = refl
lives_keep n c l agents.Restart = tt

wakes_keep : (c : Agent) (input : agents.Input) → KeepsNode c (agents.wakes c input)
wakes_keep c agents.Restart = refl
wakes_keep c input = tt

step_keeps : (n : ℕ) (c : Agent) (o : Option Life) (input : agents.Input) → KeepsNode c (agents.step_of n c o input)
step_keeps n c None input = wakes_keep c input
step_keeps n c (Some l) input = lives_keep n c l input

set_nodes : (cs : List Agent) (c : ℕ) (x y : Agent) → client_at cs c ≡ Some x → y.node ≡ x.node → map node_of (with_client cs c y) ≡ map node_of cs
set_nodes cs zero x y h e = refl
set_nodes cs (suc k) x y h e = map_set node_of cs k y ∙ (ap (λ v. slice_set (map node_of cs) k v) e ∙ set_same (map node_of cs) k x.node (get_map node_of cs k x h))

module _ (w : World) where
  abbrev pub NodesStay : Result World Refusal → Type 0
  NodesStay (Ok next) = map node_of next.clients ≡ map node_of w.clients
  NodesStay (Err r) = Unit {0}

  turn_stays : (i : ℕ) (r : Result servers.ServerTurn Refusal) → NodesStay (after_turn w i r)
  turn_stays i (Ok turn) = refl
  turn_stays i (Err r) = tt

  input_stays : (i : ℕ) (input : inputs.Input) (o : Option Server) → NodesStay (input_to w i input o)
  input_stays i input None = tt
  input_stays i input (Some s) = turn_stays i (servers.step (length w.servers) i s input)

  message_stays : (i : ℕ) (message : Message Command) (o : Option Server) → NodesStay (message_to w i message o)
  message_stays i message None = tt
  message_stays i message (Some s) = turn_stays i (servers.takes_log_message (length w.servers) i s message)

  client_turn_stays : (c : ℕ) (x : Agent) → client_at w.clients c ≡ Some x → (r : Result agents.AgentTurn Refusal) → KeepsNode x r → NodesStay (after_client w c r)
  client_turn_stays c x here (Ok turn) h = set_nodes w.clients c x turn.client here h
  client_turn_stays c x here (Err r) h = tt

  client_stays : (c : ℕ) (input : agents.Input) (o : Option Agent) → client_at w.clients c ≡ o → NodesStay (client_input_to w c input o)
  client_stays c input None here = tt
  client_stays c input (Some x) here = client_turn_stays c x here (agents.step (length w.servers) x input) (step_keeps (length w.servers) x x.life input)

  service_stays : (p : ServiceMessage) → NodesStay (delivers_service w p)
  service_stays (BetweenServers from to message) = input_stays to (inputs.Arrives (BetweenServers from to message)) (slice_get w.servers to)
  service_stays (ToServer client server request) = input_stays server (inputs.Arrives (ToServer client server request)) (slice_get w.servers server)
  service_stays (ToClient server client response) = client_stays client (agents.Arrives server response) (client_at w.clients client) refl

  delivery_stays : (o : Option GroupMessage) → NodesStay (delivers w o)
  delivery_stays None = tt
  delivery_stays (Some (OfLog message)) = message_stays message.to message (slice_get w.servers message.to)
  delivery_stays (Some (Service p)) = service_stays p

  own_stays : (i : ℕ) (input : inputs.Input) → NodesStay (own_input w i input)
  own_stays i (inputs.Arrives message) = tt
  own_stays i input = input_stays i input (slice_get w.servers i)

  own_client_stays : (c : ℕ) (input : agents.Input) → NodesStay (own_client_input w c input)
  own_client_stays c (agents.Arrives from response) = tt
  own_client_stays c input = client_stays c input (client_at w.clients c) refl

  event_stays : (e : Event) → NodesStay (happens w e)
  event_stays (Deliver k) = delivery_stays (slice_get w.sent k)
  event_stays (AtServer i input) = own_stays i input
  event_stays (AtClient c input) = own_client_stays c input

  pub nodes_stay : (e : Event) (next : World) → happens w e ≡ Ok next → map node_of next.clients ≡ map node_of w.clients
  nodes_stay e next h = subst NodesStay h (event_stays e)

-- ---- the group after an event of a client

nodes_through : (xs : List AgentView) → map node_in xs ≡ map node_of (map client_in xs)
nodes_through [] = refl
nodes_through (x ∷ xs) = ap (λ l. x.client.node ∷ l) (nodes_through xs)

nodes_in : (view : GroupView) (w : World) → RefinesGroup view w → nodes_of view ≡ map node_of w.clients
nodes_in view w st = nodes_through view.clients ∙ ap (map node_of) st.clients

-- client c, which has the one view, takes the event, and has the other view then
module _ (old new : GroupView) (f : Event) (c p : ℕ) (view after : AgentView) (reached : GroupInvariant old) (place : suc p ≡ c) (here : slice_get old.clients p ≡ Some view)
    (same : new.servers ≡ old.servers) (changed : new.clients ≡ slice_set old.clients p after) where
  -- what the event makes of a world
  pub record Moved (w : World) : Type 0 where
    pub turn : agents.AgentTurn
    pub happens : happens w f ≡ after_client w c (Ok turn)
    pub client : after.client ≡ turn.client
    pub sent : SendsGroup cluster_spec old.outbox.frames new.outbox.frames (map Service turn.sent)
    pub work : work_of w f ≡ []

  abbrev pub world_after : (w : World) → agents.AgentTurn → World
  world_after w turn = record w { clients = with_client w.clients c turn.client; sent = w.sent ++ map Service turn.sent }

  refines_after : (w : World) → RefinesGroup old w → (m : Moved w) → RefinesGroup new (world_after w m.turn)
  refines_after w st m =
      let turn = m.turn in
      let s = m.sent in
      record {
        servers = subst (λ l. AllZip RefinesServer l w.servers) (sym same) st.servers;
        clients =
            ap (map client_in) changed
            ∙ (map_set client_in old.clients p after
            ∙ (ap (λ l. slice_set l p after.client) st.clients
            ∙ (ap (λ x. slice_set w.clients p x) m.client ∙ subst (λ k. slice_set w.clients p turn.client ≡ with_client w.clients k turn.client) place refl)));
        sent = subst (λ l. AllZip (CarriesGroup cluster_spec) l (w.sent ++ map Service turn.sent)) (sym s.added)
            (zip_append (CarriesGroup cluster_spec) old.outbox.frames w.sent s.frames (map Service turn.sent) st.sent s.carry);
      }

  count_kept : length new.servers ≡ length old.servers
  count_kept = ap length same

  module _ (move : (w : World) → RefinesGroup old w → Moved w) where
    nodes_kept : nodes_of new ≡ nodes_of old
    nodes_kept =
        let r = reached.runs in
        let st = r.refines in
        let m = move reached.world st in
        nodes_in new (world_after reached.world m.turn) (refines_after reached.world st m)
        ∙ (nodes_stay reached.world f (world_after reached.world m.turn) m.happens ∙ sym (nodes_in old reached.world st))

    pub client_goes : EventFits f → new.outbox.work ≡ old.outbox.work → new.trace ≡ old.trace ++ f ∷ [] → new.chain ≡ old.chain → GroupEventHappened old f new
    client_goes fits work trace chain = record {
      size = count_kept;
      nodes = nodes_kept;
      trace = trace;
      work = λ w st. let m = move w st in work ∙ (sym (append-nil old.outbox.work) ∙ ap (λ l. old.outbox.work ++ l) (sym m.work));
      worlds = λ w st. let m = move w st in (world_after w m.turn, m.happens, refines_after w st m);
      runs = λ past w r.
          let m = move w r.refines in
          let next = world_after w m.turn in
          let run : LimitedRun (length old.servers) (nodes_of old) (old.trace ++ f ∷ []) (past ++ w ∷ []) next = limits.more f next r.run fits m.happens in
          let height : IsGreatestCommit (logs (past ++ w ∷ [])) (raft_of next) old.chain = height_kept past w next old.chain r.chain refl in (
            next,
            m.happens,
            record {
              run =
                  subst (λ n. LimitedRun n (nodes_of new) new.trace (past ++ w ∷ []) next) (sym count_kept)
                  (subst (λ l. LimitedRun (length old.servers) l new.trace (past ++ w ∷ []) next) (sym nodes_kept)
                  (subst (λ es. LimitedRun (length old.servers) (nodes_of old) es (past ++ w ∷ []) next) (sym trace) run));
              refines = refines_after w r.refines m;
              chain = subst (λ h. IsGreatestCommit (logs (past ++ w ∷ [])) (raft_of next) h) (sym chain) height;
            },
          );
    }

    knows_number : after.size ≡ view.size → (i : ℕ) (a : AgentView) → slice_get new.clients i ≡ Some a → (a.client.node.number ≡ suc i) × (a.size ≡ length new.servers)
    knows_number size i a at =
        let there = subst (λ l. slice_get l i ≡ Some a.client.node) nodes_kept (get_map node_in new.clients i a at) in
        let x = map_get node_in old.clients i a.client.node there in
        let n = reached.clients i x.0 x.1 in
        let v = reached.clients p view here in
        let sized : a.size ≡ length old.servers = elim (get_set-cases old.clients p after i a (subst (λ l. slice_get l i ≡ Some a) changed at)) [
          | inl e ↦ subst (λ (b : AgentView). b.size ≡ length old.servers) e.1 (size ∙ v.1)
          | inr e ↦ let k = reached.clients i a e.1 in k.1
        ] in
        (ap (λ (y : NodeSpec). y.number) (sym x.2) ∙ n.0, sized ∙ sym count_kept)

    pub client_reached : after.size ≡ view.size → GroupEventHappened old f new → GroupInvariant new
    client_reached size g =
        let q = g.runs reached.past reached.world reached.runs in
        record {
          past = reached.past ++ reached.world ∷ [];
          world = q.0;
          runs = q.2;
          servers = subst (λ l. (i : ℕ) (s : ServerView) → slice_get l i ≡ Some s → (s.raft.me ≡ i) × (s.raft.size ≡ length l)) (sym same) reached.servers;
          clients = knows_number size;
          nodes = subst NodesFit (sym nodes_kept) reached.nodes;
          size = subst IsGroup (sym count_kept) reached.size;
        }

-- ---- a crash

alive : (o : Option Life) → is_some o ≡ true → (l : Life) × (o ≡ Some l)
alive None h = absurd (cc)
alive (Some l) h = (l, refl)

-- a client that is up crashes
crashes : (w : World) (c : ℕ) (x : Agent) (l : Life) → client_at w.clients c ≡ Some x → x.life ≡ Some l →
    happens w (AtClient c agents.Crash) ≡ after_client w c (Ok (record { client = record x { life = None }; sent = [] }))
crashes w c x l here up = ap (λ o. client_input_to w c agents.Crash o) here ∙ ap (λ o. after_client w c (agents.step_of (length w.servers) x o agents.Crash)) up

-- ---- where a client stands

-- in this world client c, which has this view, is there, and is one of such a group
pub record ClientStands (view : AgentView) (w : World) (c : ℕ) : Type 0 where
  pub at : client_at w.clients c ≡ Some view.client
  pub number : view.client.node.number ≡ c
  pub size : view.size ≡ length w.servers

pub client_stands : (old : GroupView) (c : ℕ) (view : AgentView) → GroupInvariant old → client_view old.clients c ≡ Some view → (w : World) → RefinesGroup old w → ClientStands view w c
client_stands old zero view reached here w st = absurd (cc)
client_stands old (suc k) view reached here w st =
    let n = reached.clients k view here in
    record {
      at = subst (λ l. slice_get l k ≡ Some view.client) st.clients (get_map client_in old.clients k view here);
      number = n.0;
      size = n.1 ∙ zip_length RefinesServer old.servers w.servers st.servers;
    }

-- the client that was taken from its place
pub client_here : (old now : GroupView) (c p : ℕ) (view : AgentView) → old ≡ now → suc p ≡ c → c ≤ length now.clients → view ≡ get_or old.clients p view → client_view old.clients c ≡ Some view
client_here old now c p view same place inside got =
    let within : c ≤ length old.clients = subst (λ (x : GroupView). c ≤ length x.clients) (sym same) inside in
    subst (λ k. client_view old.clients k ≡ Some view) place (slice_get_read old.clients _ p view refl (omega (arith, within, place)) got)

-- ---- what came for workers is fetched

abbrev pub fetched : GroupView → GroupView
fetched view = record view { outbox = record view.outbox { work = [] } }

fetched_runs : (view : GroupView) (past : List World) (w : World) → GroupRunsTo view past w → GroupRunsTo (fetched view) past w
fetched_runs view past w r =
    let st = r.refines in
    record { run = r.run; refines = record { servers = st.servers; clients = st.clients; sent = st.sent }; chain = r.chain }

pub fetched_reached : (view : GroupView) → GroupInvariant view → GroupInvariant (fetched view)
fetched_reached view r = record {
  past = r.past;
  world = r.world;
  runs = fetched_runs view r.past r.world r.runs;
  servers = r.servers;
  clients = r.clients;
  nodes = r.nodes;
  size = r.size;
}

-- ---- the event is for client c, which has this view, and hands this to it

module _ (old : GroupView) (e : Event) (c : ℕ) (view : AgentView) (given : ClientInput) where
  pub record ClientScene : Type 0 where
    pub reached : GroupInvariant old
    pub here : client_view old.clients c ≡ Some view
    pub fits : EventFits e
    pub takes : (w : World) → RefinesGroup old w → ClientTakes view given w e c

  module _ (s : ClientScene) (limited : LimitsAreKept) (from_members : SendersAreMembers) (awake : IsGroupAwake old e) where
    -- who sent in a run is of the group
    senders_in : (past : List World) (w : World) → GroupRunsTo old past w → SendersIn (length w.servers) w
    senders_in past w r =
        let reached = s.reached in
        let st = r.refines in
        subst (λ n. SendersIn n w) (zip_length RefinesServer old.servers w.servers st.servers) (from_members (length old.servers) (nodes_of old) old.trace past w (limited (length old.servers) (nodes_of old) old.trace past w reached.nodes r.run))

    refuses : (r : Refusal) → ClientRefuses view given r → RefusesGroupEvent old e r
    refuses r says past w run =
        let t = s.takes w run.refines in
        t.happens ∙ ap (λ q. after_client w c q) (t.refuses (senders_in past w run) r says)

    caused : (r : Refusal) → RefusedSo (Unit {0}) (ClientRefuses view given) r → r ≢ refusals.NoMemory → RefusesGroupEvent old e r
    caused refusals.NoMemory says other = absurd (other refl)
    caused _ says other = refuses _ says

    module _ (new : GroupView) (after : AgentView) (p : ℕ) (place : suc p ≡ c) (changed : new.clients ≡ slice_set old.clients p after) (same : new.servers ≡ old.servers) (size : after.size ≡ view.size) where
      here_at : slice_get old.clients p ≡ Some view
      here_at = subst (λ k. client_view old.clients k ≡ Some view) (sym place) s.here

      taken : ClientTook view (history_of old) given e after (history_of new) → GroupActed old e (Ok done.Taken) new
      taken t =
          let move : (w : World) → RefinesGroup old w → Moved old new e c p view after s.reached place here_at same changed w =
          λ w st. let k = s.takes w st in let q = k.taken after old.outbox.frames new.outbox.frames t.steps.taken in
          record { turn = q.turn; happens = k.happens ∙ ap (λ r. after_client w c r) q.is; client = q.client; sent = q.sent; work = k.work } in
          let happened = client_goes old new e c p view after s.reached place here_at same changed move s.fits t.work t.trace t.chain in
          record {
            stepped = record { ok = happened; err = tt; cause = tt; memory = tt };
            world = client_reached old new e c p view after s.reached place here_at same changed move size happened;
          }

      fallen : ClientFell view (history_of old) given e c after (history_of new) → GroupActed old e (Ok done.Crashed) new
      fallen t =
          let crash = AtClient c agents.Crash in
          let up = alive view.client.life t.crashed.0 in
          let none : new.outbox.frames ≡ old.outbox.frames ++ [] = ap (λ (o : Outbox). o.frames) t.outbox ∙ sym (append-nil old.outbox.frames) in
          let move : (w : World) → RefinesGroup old w → Moved old new crash c p view after s.reached place here_at same changed w =
          λ w st. let k = client_stands old c view s.reached s.here w st in record {
            turn = record { client = record view.client { life = None }; sent = [] };
            happens = crashes w c view.client up.0 k.at up.1;
            client = ap (λ (a : AgentView). a.client) t.crashed.1;
            sent = record { frames = []; added = none; carry = tt };
            work = refl;
          } in
          let happened = client_goes old new crash c p view after s.reached place here_at same changed move tt (ap (λ (o : Outbox). o.work) t.outbox) t.trace t.chain in
          record {
            stepped = record {
              ok = inl (record {
                crash = crash;
                actor = λ w st. let k = s.takes w st in k.crash;
                lacking = λ w st. let k = s.takes w st in k.wants t.lacks;
                happened = happened;
              });
              err = tt;
              cause = tt;
              memory = tt;
            };
            world = client_reached old new crash c p view after s.reached place here_at same changed move size happened;
          }

      as_it_was : after ≡ view → history_of new ≡ history_of old → new ≡ old
      as_it_was is past =
          let kept : new.clients ≡ old.clients = changed ∙ (ap (λ x. slice_set old.clients p x) is ∙ set_same old.clients p view here_at) in
          λ t. record {
            servers = same t;
            clients = kept t;
            outbox = ap (λ (x : GroupHistoryView). x.outbox) past t;
            trace = ap (λ (x : GroupHistoryView). x.trace) past t;
            chain = ap (λ (x : GroupHistoryView). x.chain) past t;
          }

      pub client_acted : (result : Result Done Refusal) → ClientDone view (history_of old) given e c result after (history_of new) → GroupActed old e result new
      client_acted (Ok done.Taken) t = taken t
      client_acted (Ok done.Crashed) t = fallen t
      client_acted (Err r) t =
          let is : old ≡ new = sym (as_it_was t.0 t.1) in
          record {
            stepped = record { ok = tt; err = subst (λ x. SameView old x) is (same_group old); cause = caused r t.2; memory = λ none. awake };
            world = subst GroupInvariant is s.reached;
          }

-- ---- the client stood at place p of the value, which is now this one

module _ (old now : GroupView) (e : Event) (c p : ℕ) (view : AgentView) (given : ClientInput) (seen : old ≡ now) (reached : GroupInvariant old) (place : suc p ≡ c) (inside : c ≤ length now.clients)
    (got : view ≡ get_or old.clients p view) (fits : EventFits e) (awake : IsGroupAwake now e) (takes : (w : World) → RefinesGroup old w → ClientStands view w c → ClientTakes view given w e c) where
  scene_there : ClientScene old e c view given
  scene_there =
      let here = client_here old now c p view seen place inside got in
      record { reached = reached; here = here; fits = fits; takes = λ w st. takes w st (client_stands old c view reached here w st) }

  pub client_moved : LimitsAreKept → SendersAreMembers → (new : GroupView) (after : AgentView) → new.clients ≡ slice_set old.clients p after → new.servers ≡ old.servers → after.size ≡ view.size →
      (result : Result Done Refusal) → ClientDone view (history_of old) given e c result after (history_of new) → GroupActed old e result new
  client_moved limited from_members new after changed same size result d =
      client_acted old e c view given scene_there limited from_members (subst (λ x. IsGroupAwake x e) (sym seen) awake) new after p place changed same size result d
