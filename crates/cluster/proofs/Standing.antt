-- The actors in their cells stand for a world of the group's definitions, and each of their steps
-- for an event there.
use Rattle.std.proofs.Common.{◌≡◌, ◌≢◌, ◌⊎◌, inl, inr, ℕ, zero, suc, ◌==◌, Bool, true, false, if◌then◌else◌, Option, Some, Ok, List, [], ◌∷◌, ◌++◌, map, length, refl, sym, ap, ◌∙◌, subst, arith, slice_get, slice_set, eq-eqb}
use Rattle.std.proofs.lemmas.Bool.{eqb-true, false_from_ne_true}
use Rattle.std.proofs.lemmas.Option.{same_Some, slice_get_within}
use Rattle.std.specs.List.{AllZip}
use Rattle.rows.specs.declared.actor.Actor.{Actor}
use Rattle.rows.specs.declared.actor.Actor.TheVariants as actors
use Rattle.rows.specs.declared.node.NodeSpec.{NodeSpec}
use Rattle.raft_safety.proofs.Places.{get_set-cases, set-length, get-some}
use Rattle.fsm_model.specs.ClusterMachine.{cluster_spec}
use Rattle.group_model.specs.Messages.{GroupMessage, Service}
use Rattle.group_model.specs.Servers as servers
use Rattle.group_model.specs.Servers.{Server}
use Rattle.group_model.specs.Agents as agents
use Rattle.group_model.specs.Agents.{Agent}
use Rattle.group_model.specs.Worlds.{World, Event, happens, after_client, client_at, with_client}
use Rattle.group_safety.proofs.Lists.{get_map, map_get, map_append}
use Rattle.group_frames.specs.GroupFrames.{CarriesGroup, SendsGroup}
use Rattle.client_agent.specs.AgentView.{AgentView}
use Rattle.server.specs.ServerViews.{ServerView, RefinesServer}
use Rattle.world.proofs.Zips.{zip_append}
use Rattle.world.proofs.GroupClients.{node_of, nodes_stay}
use Rattle.event_book.specs.declared.view.EventView.{EventView}
use Rattle.event_book.specs.declared.view.Output.{Output}
use Rattle.cells.specs.declared.own_input.OwnInput.{OwnInput}
use Rattle.actor.specs.declared.group_actor.GroupActor.{GroupActor}
use Rattle.actor.specs.declared.group_actor.GroupActor.TheVariants as group_actors
use Rattle.cells.specs.Actors.{output_frame, ActorSteps}
use Rattle.cluster.proofs.CellWorlds.{CellWorld, put, Brings, Happened, Runs}
use Rattle.cluster.proofs.Moves.{ReadsAgain, server_moves, client_moves}

-- The actors and what they sent are those of the world: server i is the server at place i there,
-- each client has its number, and there are no others.
pub record Stands (c : CellWorld) (w : World) : Type 0 where
  pub servers : (i : ℕ) (m : Server) → slice_get w.servers i ≡ Some m →
      (v : ServerView) × (c.at (actors.Server i) ≡ Some (group_actors.Server v)) × (v.raft.me ≡ i)
      × (v.raft.size ≡ length w.servers) × RefinesServer v m
  pub clients : (k : ℕ) (x : Agent) → client_at w.clients k ≡ Some x →
      (c.at (actors.Client k) ≡ Some (group_actors.Client (record { size = length w.servers; client = x })))
      × (x.node.number ≡ k)
  pub server_there : (i : ℕ) (a : GroupActor) → c.at (actors.Server i) ≡ Some a →
      (m : Server) × (slice_get w.servers i ≡ Some m)
  pub client_there : (k : ℕ) (a : GroupActor) → c.at (actors.Client k) ≡ Some a →
      (x : Agent) × (client_at w.clients k ≡ Some x)
  pub sent : AllZip (CarriesGroup cluster_spec) (map output_frame c.sent) w.sent

-- the world after an event of the cells' actors
abbrev pub GoesOn : CellWorld → World → Event → Type 0
GoesOn d w e = (next : World) × (happens w e ≡ Ok next) × Stands d next

-- ---- what a step changes

sent_more : (sent outputs : List Output) (messages more : List GroupMessage) →
    AllZip (CarriesGroup cluster_spec) (map output_frame sent) messages →
    SendsGroup cluster_spec [] (map output_frame outputs) more →
    AllZip (CarriesGroup cluster_spec) (map output_frame (sent ++ outputs)) (messages ++ more)
sent_more sent outputs messages more z s =
    subst (λ l. AllZip (CarriesGroup cluster_spec) l (messages ++ more))
    (sym (map_append output_frame sent outputs))
    (zip_append (CarriesGroup cluster_spec) (map output_frame sent) messages
    (map output_frame outputs) more z
    (subst (λ l. AllZip (CarriesGroup cluster_spec) l more) (sym s.added) s.carry))

-- a list that one place changed has something wherever it had
still_there : {A : Type 0} (xs : List A) (i : ℕ) (x : A) (j : ℕ) (y : A) → slice_get xs j ≡ Some y →
    (z : A) × (slice_get (slice_set xs i x) j ≡ Some z)
still_there xs i x j y h =
    get-some (slice_set xs i x) j (omega (arith, slice_get_within xs j y h, set-length xs i x))

client_still_there : (cs : List Agent) (c : ℕ) (x : Agent) (k : ℕ) (y : Agent) →
    client_at cs k ≡ Some y → (z : Agent) × (client_at (with_client cs c x) k ≡ Some z)
client_still_there cs c x zero y h = absurd (cc)
client_still_there cs zero x (suc k) y h = (y, h)
client_still_there cs (suc c) x (suc k) y h = still_there cs c x k y h

client_set_cases : (cs : List Agent) (c : ℕ) (x : Agent) (k : ℕ) (y : Agent) →
    client_at (with_client cs c x) k ≡ Some y →
    ((k ≡ c) × (x ≡ y)) ⊎ ((k ≢ c) × (client_at cs k ≡ Some y))
client_set_cases cs c x zero y h = absurd (cc)
client_set_cases cs zero x (suc k) y h = inr ((λ e. cc), h)
client_set_cases cs (suc c) x (suc k) y h =
    elim (get_set-cases cs c x k y h) [
      | inl e ↦ inl (ap suc e.0, e.1)
      | inr e ↦ inr ((λ q. e.0 (omega (arith, q))), e.1)
    ]

-- one that is there after another was put in its place was that other, or was there before
was : (b : Bool) (o : Option GroupActor) (t a : GroupActor) → (if b then Some t else o) ≡ Some a →
    (b ≡ true) ⊎ (o ≡ Some a)
was true o t a h = inl refl
was false o t a h = inr h

module _ (c : CellWorld) (w : World) (st : Stands c w) where
  server_stands
      : (i : ℕ) (old : GroupActor) (new : ServerView) (outputs : List Output)
      (turn : servers.ServerTurn) → c.at (actors.Server i) ≡ Some old → new.raft.me ≡ i →
      new.raft.size ≡ length w.servers → RefinesServer new turn.server →
      SendsGroup cluster_spec [] (map output_frame outputs) turn.sent →
      Stands (put c (actors.Server i) (group_actors.Server new) outputs)
      (record w { servers = slice_set w.servers i turn.server; sent = w.sent ++ turn.sent })
  server_stands i old new outputs turn here me size server sends =
      let count : length (slice_set w.servers i turn.server) ≡ length w.servers =
      set-length w.servers i turn.server in
      record {
        servers = λ j m at. elim (get_set-cases w.servers i turn.server j m at) [
          | inl q ↦ (
            new,
            ap (λ b. if b then Some (group_actors.Server new) else c.at (actors.Server j)) (eq-eqb j i q.0),
            me ∙ sym q.0,
            size ∙ sym count,
            subst (λ x. RefinesServer new x) q.1 server,
          )
          | inr q ↦
              let s = st.servers j m q.1 in (
                s.0,
                ap (λ b. if b then Some (group_actors.Server new) else c.at (actors.Server j))
                    (false_from_ne_true (j == i) (λ e. q.0 (eqb-true j i e))) ∙ s.1,
                s.2,
                s.3 ∙ sym count,
                s.4,
              )
        ];
        clients = λ k x at. let s = st.clients k x at in
            (s.0 ∙ ap (λ n. Some (group_actors.Client (record { size = n; client = x }))) (sym count), s.1);
        server_there = λ j a at.
            let before : (m : Server) × (slice_get w.servers j ≡ Some m) =
            elim (was (j == i) (c.at (actors.Server j)) (group_actors.Server new) a at) [
              | inl e ↦ let m = st.server_there i old here in
                  (m.0, ap (λ k. slice_get w.servers k) (eqb-true j i e) ∙ m.1)
              | inr h ↦ st.server_there j a h
            ] in
            still_there w.servers i turn.server j before.0 before.1;
        client_there = λ k a at. st.client_there k a at;
        sent = sent_more c.sent outputs w.sent turn.sent st.sent sends;
      }

  server_next : ReadsAgain →
      (d : CellWorld) (e : Event) (i : ℕ) (old : GroupActor) (new : GroupActor)
      (event : EventView OwnInput) (outputs : List Output) → c.at (actors.Server i) ≡ Some old →
      Brings c.sent (actors.Server i) event e → ActorSteps old event outputs new →
      d ≡ put c (actors.Server i) new outputs → GoesOn d w e
  server_next again d e i old (group_actors.Client new) event outputs here brings step after =
      let m = st.server_there i old here in
      let s = st.servers i m.0 m.1 in
      absurd ((subst (λ a. ActorSteps a event outputs (group_actors.Client new))
      (same_Some old (group_actors.Server s.0) (sym here ∙ s.1)) step).1)
  server_next again d e i old (group_actors.Server new) event outputs here brings step after =
      let m = st.server_there i old here in
      let s = st.servers i m.0 m.1 in
      let t = subst (λ a. ActorSteps a event outputs (group_actors.Server new))
      (same_Some old (group_actors.Server s.0) (sym here ∙ s.1)) step in
      let q = server_moves again c.sent w st.sent i m.0 s.0 m.1 s.2 s.3 s.4 new outputs event t.0 e
      brings t.1 in
      let turn = q.turn in
      let next : World =
      record w { servers = slice_set w.servers i turn.server; sent = w.sent ++ turn.sent } in
      subst (λ x. GoesOn x w e) (sym after)
      (next, q.goes, server_stands i old new outputs q.turn here q.me q.size q.server q.sends)

  -- after an event each client is numbered as before
  numbers_stay : (e : Event) (next : World) → happens w e ≡ Ok next → (k : ℕ) (x : Agent) →
      client_at next.clients k ≡ Some x → x.node.number ≡ k
  numbers_stay e next goes zero x at = absurd (cc)
  numbers_stay e next goes (suc p) x at =
      let was =
      map_get node_of w.clients p x.node
      (subst (λ l. slice_get l p ≡ Some x.node) (nodes_stay w e next goes)
      (get_map node_of next.clients p x at)) in
      ap (λ (n : NodeSpec). n.number) (sym was.2) ∙ (st.clients (suc p) was.0 was.1).1

  client_stands
      : (e : Event) (k : ℕ) (old : GroupActor) (new : AgentView) (outputs : List Output)
      (turn : agents.AgentTurn) → c.at (actors.Client k) ≡ Some old →
      happens w e ≡ after_client w k (Ok turn) → new.size ≡ length w.servers →
      new.client ≡ turn.client →
      SendsGroup cluster_spec [] (map output_frame outputs) (map Service turn.sent) →
      Stands (put c (actors.Client k) (group_actors.Client new) outputs)
      (record w {
        clients = with_client w.clients k turn.client;
        sent = w.sent ++ map Service turn.sent;
      })
  client_stands e k old new outputs turn here goes size client sends =
      let next : World =
      record w {
        clients = with_client w.clients k turn.client;
        sent = w.sent ++ map Service turn.sent;
      } in
      record {
        servers = λ i m at. st.servers i m at;
        clients = λ j x at. elim (client_set_cases w.clients k turn.client j x at) [
          | inl q ↦
              let is : new ≡ record { size = length w.servers; client = x } =
              λ t. record { size = size t; client = (client ∙ q.1) t } in (
                ap (λ b. if b then Some (group_actors.Client new) else c.at (actors.Client j)) (eq-eqb j k q.0)
                    ∙ ap (λ a. Some (group_actors.Client a)) is,
                numbers_stay e next goes j x at,
              )
          | inr q ↦
              let s = st.clients j x q.1 in (
                ap (λ b. if b then Some (group_actors.Client new) else c.at (actors.Client j))
                    (false_from_ne_true (j == k) (λ e. q.0 (eqb-true j k e))) ∙ s.0,
                s.1,
              )
        ];
        server_there = λ i a at. st.server_there i a at;
        client_there = λ j a at.
            let before : (x : Agent) × (client_at w.clients j ≡ Some x) =
            elim (was (j == k) (c.at (actors.Client j)) (group_actors.Client new) a at) [
              | inl e ↦ let x = st.client_there k old here in
                  (x.0, ap (λ i. client_at w.clients i) (eqb-true j k e) ∙ x.1)
              | inr h ↦ st.client_there j a h
            ] in
            client_still_there w.clients k turn.client j before.0 before.1;
        sent = sent_more c.sent outputs w.sent (map Service turn.sent) st.sent sends;
      }

  client_next : ReadsAgain →
      (d : CellWorld) (e : Event) (k : ℕ) (old : GroupActor) (new : GroupActor)
      (event : EventView OwnInput) (outputs : List Output) → c.at (actors.Client k) ≡ Some old →
      Brings c.sent (actors.Client k) event e → ActorSteps old event outputs new →
      d ≡ put c (actors.Client k) new outputs → GoesOn d w e
  client_next again d e k old (group_actors.Server new) event outputs here brings step after =
      let x = st.client_there k old here in
      let s = st.clients k x.0 x.1 in
      absurd ((subst (λ a. ActorSteps a event outputs (group_actors.Server new))
      (same_Some old _ (sym here ∙ s.0)) step).1)
  client_next again d e k old (group_actors.Client new) event outputs here brings step after =
      let x = st.client_there k old here in
      let s = st.clients k x.0 x.1 in
      let t = subst (λ a. ActorSteps a event outputs (group_actors.Client new))
      (same_Some old _ (sym here ∙ s.0)) step in
      let q = client_moves again c.sent w st.sent k x.0 x.1 s.1 new outputs event e brings t.1.1 in
      let turn = q.turn in
      let next : World =
      record w {
        clients = with_client w.clients k turn.client;
        sent = w.sent ++ map Service turn.sent;
      } in
      subst (λ a. GoesOn a w e) (sym after) (
        next,
        q.goes,
        client_stands e k old new outputs q.turn here q.goes q.size q.client q.sends,
      )

-- ---- steps and runs

-- what happened to the actors in their cells happens in the world for which they stand
pub stands_next : ReadsAgain → (c d : CellWorld) (w : World) (e : Event) → Stands c w →
    Happened c e d → (next : World) × (happens w e ≡ Ok next) × Stands d next
stands_next again c d w e st h = goes h.actor h.here h.brings h.after
  where
    goes : (a : Actor) → c.at a ≡ Some h.old → Brings c.sent a h.event e →
        d ≡ put c a h.new h.outputs → GoesOn d w e
    goes (actors.Server i) here brings after =
        server_next c w st again d e i h.old h.new h.event h.outputs here brings h.step after
    goes (actors.Client k) here brings after =
        client_next c w st again d e k h.old h.new h.event h.outputs here brings h.step after

-- so do runs
pub runs_on : ReadsAgain → (events : List Event) (c d : CellWorld) (w : World) →
    Runs Happened c events d → Stands c w →
    (last : World) × Runs (λ (v : World) (e : Event) (x : World). happens v e ≡ Ok x) w events last
    × Stands d last
runs_on again [] c d w run st = (w, refl, subst (λ x. Stands x w) run st)
runs_on again (e ∷ es) c d w run st =
    let q = stands_next again c run.0 w e st run.1 in
    let r = runs_on again es run.0 d q.0 run.2 q.2 in
    (r.0, (q.0, q.1, r.1), r.2)
