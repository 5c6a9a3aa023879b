-- A client starts one allocation after the other, each of which it never started; and no other event changes what a
-- client ever started.
use Rattle.std.proofs.Common.{◌≡◌, ◌≢◌, ℕ, zero, suc, ◌⊎◌, inl, inr, Bool, true, false, cond, not, ◌&&◌, ◌||◌, nat_lt, nat_eq, length, Option, Some, None, Result, Ok, Err, List, [], ◌∷◌, ◌++◌, filter, refl, sym, ap, ◌∙◌, subst, slice_get, slice_set, true≢false}
use Rattle.std.proofs.lemmas.Bool.{and_parts, and_from, eq-eqb}
use Rattle.std.proofs.lemmas.Option.{same_Some}
use Rattle.std.specs.List.{list_any}
use Rattle.rows.specs.declared.size.Size.{Size}
use Rattle.rows.specs.declared.allocation.AllocId.{AllocId}
use Rattle.rows.specs.declared.refusal.Refusal.{Refusal}
use Rattle.rows.specs.declared.listing.ListedAllocation.{ListedAllocation}
use Rattle.raft_model.specs.Messages.{Message}
use Rattle.rows.specs.declared.command.Command.{Command}
use Rattle.raft_model.proofs.Cases.{same_ok}
use Rattle.fsm_model.specs.Words.{same_alloc}
use Rattle.group_model.specs.Messages.{GroupMessage, OfLog, Service, ServiceMessage, BetweenServers, ToServer, ToClient, ClientResponse, Listing, Told}
use Rattle.group_model.specs.Inputs as inputs
use Rattle.group_model.specs.Servers as servers
use Rattle.group_model.specs.Servers.{Server}
use Rattle.group_model.specs.Agents.{Agent, Life, Running, Input, Arrives, RegisterAt, Ping, PullFrom, End, Crash, Restart, AgentTurn, Started, is_shown, runs, fits_beside, starts, with_started, takes_response, lives, wakes, step_of, step}
use Rattle.group_model.specs.Worlds.{World, Event, Deliver, AtServer, AtClient, after_turn, input_to, message_to, after_client, client_input_to, client_at, delivers, delivers_service, own_input, own_client_input, happens}

abbrev pub IsNew : List AllocId → AllocId → Type 0
IsNew ids id = (j : ℕ) → slice_get ids j ≢ Some id

-- some ids more, each new when it came
pub data Added : List AllocId → List AllocId → Type 0 where
  nothing : (ids : List AllocId) → Added ids ids
  another : (ids after : List AllocId) (id : AllocId) → IsNew ids id → Added (ids ++ id ∷ []) after → Added ids after

any_at : (test : AllocId → Bool) (ids : List AllocId) (j : ℕ) (id : AllocId) → slice_get ids j ≡ Some id → test id ≡ true → list_any test ids ≡ true
any_at test [] j id h t = absurd (cc)
any_at test (x ∷ ids) zero id h t = rw (ap test (same_Some x id h) ∙ t) refl
any_at test (x ∷ ids) (suc j) id h t = or_true (test x) (list_any test ids) (any_at test ids j id h t) where
  or_true : (a b : Bool) → b ≡ true → (a || b) ≡ true
  or_true true b e = refl
  or_true false b e = e

same_self : (id : AllocId) → same_alloc id id ≡ true
same_self id = and_from (nat_eq id.index id.index) (nat_eq id.slot id.slot) (eq-eqb id.index id.index refl) (eq-eqb id.slot id.slot refl)

not_true : (b : Bool) → not b ≡ true → b ≡ true → ⊥
not_true true n e = absurd (true≢false (sym n))
not_true false n e = absurd (true≢false (sym e))

starts_added : (whole : Size) (rows : List ListedAllocation) (s : Started) → Added s.ids (starts whole rows s).ids
starts_added whole [] s = nothing s.ids
starts_added whole (r ∷ rows) s = by (λ t. starts_added whole rows t) (not (list_any (same_alloc r.id) s.ids) && fits_beside whole s.running r.size) refl where
  by : ((t : Started) → Added t.ids (starts whole rows t).ids) → (b : Bool) → (not (list_any (same_alloc r.id) s.ids) && fits_beside whole s.running r.size) ≡ b →
      Added s.ids (starts whole rows (cond b (record { ids = s.ids ++ r.id ∷ []; running = s.running ++ record { id = r.id; size = r.size } ∷ [] }) s)).ids
  by rest true e = another s.ids _ r.id
      (λ j at. not_true (list_any (same_alloc r.id) s.ids) (and_parts (not (list_any (same_alloc r.id) s.ids)) (fits_beside whole s.running r.size) e).0 (any_at (same_alloc r.id) s.ids j r.id at (same_self r.id)))
      (rest (record { ids = s.ids ++ r.id ∷ []; running = s.running ++ record { id = r.id; size = r.size } ∷ [] }))
  by rest false e = rest s

pub AddedResult : Agent → Result AgentTurn Refusal → Type 0
AddedResult c (Err r) = Unit {0}
AddedResult c (Ok turn) = Added c.started turn.client.started

added_cond : (c : Agent) (b : Bool) (x : AgentTurn) (e : Refusal) → Added c.started x.client.started → AddedResult c (cond b (Ok x) (Err e))
unfolding AddedResult
added_cond c true x e h = h
added_cond c false x e h = tt

list_added : (c : Agent) (from index : ℕ) (rows : List ListedAllocation) (l : Life) (b : Bool) →
    Added c.started (cond b (record { client = c; sent = [] }) (with_started c from index rows l (starts c.node.size rows (record { ids = c.started; running = filter (λ (r : Running). is_shown rows r.id) l.running })))).client.started
list_added c from index rows l true = nothing c.started
list_added c from index rows l false = starts_added c.node.size rows (record { ids = c.started; running = filter (λ (r : Running). is_shown rows r.id) l.running })

heard_added : (c : Agent) (from : ℕ) (l : Life) (response : ClientResponse) → Added c.started (takes_response c from l response).client.started
heard_added c from l (Listing index rows) = list_added c from index rows l (nat_lt index l.seen)
heard_added c from l (Told kind refused) = nothing c.started

lives_added : (n : ℕ) (c : Agent) (l : Life) (input : Input) → AddedResult c (lives n c l input)
unfolding AddedResult
lives_added n c l (Arrives from response) = heard_added c from l response
lives_added n c l (RegisterAt server) = added_cond c (nat_lt server n) _ _ (nothing c.started)
lives_added n c l (Ping server) = added_cond c (nat_lt server n) _ _ (nothing c.started)
lives_added n c l (PullFrom server) = added_cond c (nat_lt server n) _ _ (nothing c.started)
lives_added n c l (End id ok) = added_cond c (runs l.running id) _ _ (nothing c.started)
lives_added n c l Crash = nothing c.started
lives_added n c l Restart = tt

wakes_added : (c : Agent) (input : Input) → AddedResult c (wakes c input)
unfolding AddedResult
wakes_added c Restart = nothing c.started
wakes_added c input = tt

step_of_added : (n : ℕ) (c : Agent) (o : Option Life) (input : Input) → AddedResult c (step_of n c o input)
step_of_added n c None input = wakes_added c input
step_of_added n c (Some l) input = lives_added n c l input

step_added : (n : ℕ) (c : Agent) (input : Input) (turn : AgentTurn) → step n c input ≡ Ok turn → Added c.started turn.client.started
unfolding AddedResult
step_added n c input turn h = subst (AddedResult c) h (step_of_added n c c.life input)

-- ---- an event

-- clients stay, or one of them starts some
pub record OneStarts (w next : World) : Type 0 where
  pub place : ℕ
  pub old : Agent
  pub new : Agent
  pub here : slice_get w.clients place ≡ Some old
  pub added : Added old.started new.started
  pub clients : next.clients ≡ slice_set w.clients place new

abbrev pub ClientsGo : World → World → Type 0
ClientsGo w next = (next.clients ≡ w.clients) ⊎ OneStarts w next

module _ (w next : World) where
  turn_stays : (i : ℕ) (r : Result servers.ServerTurn Refusal) → after_turn w i r ≡ Ok next → ClientsGo w next
  turn_stays i (Err e) h = absurd (cc)
  turn_stays i (Ok turn) h = inl (sym (ap (λ (x : World). x.clients) (same_ok _ next h)))

  to_stays : (i : ℕ) (input : inputs.Input) (o : Option Server) → input_to w i input o ≡ Ok next → ClientsGo w next
  to_stays i input None h = absurd (cc)
  to_stays i input (Some s) h = turn_stays i (servers.step (length w.servers) i s input) h

  message_stays : (i : ℕ) (message : Message Command) (o : Option Server) → message_to w i message o ≡ Ok next → ClientsGo w next
  message_stays i message None h = absurd (cc)
  message_stays i message (Some s) h = turn_stays i (servers.takes_log_message (length w.servers) i s message) h

  client_turn : (c : ℕ) (input : Input) (x : Agent) → client_at w.clients c ≡ Some x → (r : Result AgentTurn Refusal) → step (length w.servers) x input ≡ r → after_client w c r ≡ Ok next → ClientsGo w next
  client_turn c input x here (Err e) is h = absurd (cc)
  client_turn zero input x here (Ok turn) is h = absurd (cc)
  client_turn (suc c) input x here (Ok turn) is h = inr (record {
    place = c;
    old = x;
    new = turn.client;
    here = here;
    added = step_added (length w.servers) x input turn is;
    clients = sym (ap (λ (v : World). v.clients) (same_ok _ next h));
  })

  client_goes : (c : ℕ) (input : Input) (o : Option Agent) → client_at w.clients c ≡ o → client_input_to w c input o ≡ Ok next → ClientsGo w next
  client_goes c input None is h = absurd (cc)
  client_goes c input (Some x) is h = client_turn c input x is (step (length w.servers) x input) refl h

  service_goes : (p : ServiceMessage) → delivers_service w p ≡ Ok next → ClientsGo w next
  service_goes (BetweenServers from to message) h = to_stays to (inputs.Arrives (BetweenServers from to message)) (slice_get w.servers to) h
  service_goes (ToServer client server request) h = to_stays server (inputs.Arrives (ToServer client server request)) (slice_get w.servers server) h
  service_goes (ToClient server client response) h = client_goes client (Arrives server response) (client_at w.clients client) refl h

  delivery_goes : (o : Option GroupMessage) → delivers w o ≡ Ok next → ClientsGo w next
  delivery_goes None h = absurd (cc)
  delivery_goes (Some (OfLog message)) h = message_stays message.to message (slice_get w.servers message.to) h
  delivery_goes (Some (Service message)) h = service_goes message h

  own_goes : (i : ℕ) (input : inputs.Input) → own_input w i input ≡ Ok next → ClientsGo w next
  own_goes i (inputs.Arrives message) h = absurd (cc)
  own_goes i input h = to_stays i input (slice_get w.servers i) h

  own_client_goes : (c : ℕ) (input : Input) → own_client_input w c input ≡ Ok next → ClientsGo w next
  own_client_goes c (Arrives from response) h = absurd (cc)
  own_client_goes c input h = client_goes c input (client_at w.clients c) refl h

  pub event_clients : (e : Event) → happens w e ≡ Ok next → ClientsGo w next
  event_clients (Deliver k) h = delivery_goes (slice_get w.sent k) h
  event_clients (AtServer i input) h = own_goes i input h
  event_clients (AtClient c input) h = own_client_goes c input h
