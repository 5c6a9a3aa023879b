-- The world that the cells of a closed book come to.
use Rattle.std.proofs.Common.{◌≡◌, ℕ, zero, suc, ◌+◌, ◌<◌, ◌||◌, Bool, true, false, true≢false, Option, Some, List, [], ◌∷◌, ◌++◌, map, length, take, refl, sym, ap, ◌∙◌, subst, arith, slice_get}
use Rattle.std.proofs.lemmas.Option.{same_Some, none-some, slice_get_within}
use Rattle.std.specs.List.{AllByRecursion}
use Rattle.rows.specs.declared.actor.Actor.{Actor}
use Rattle.rows.specs.declared.actor.Actor.TheVariants as actors
use Rattle.rows.specs.declared.node.NodeSpec.{NodeSpec}
use Rattle.group_model.specs.Agents.{Agent, agent_of}
use Rattle.group_model.specs.Servers.{Server}
use Rattle.group_model.specs.Worlds.{World, Event, first, agents_from, client_at}
use Rattle.group_safety.proofs.Lists.{get_map, map_append, map_get, map_length}
use Rattle.client_agent.specs.AgentView.{AgentView}
use Rattle.server.specs.ServerViews.{ServerView, RefinesServer}
use Rattle.spec.specs.Visible.{Visible}
use Rattle.spec.specs.Refinement.{started_by, state_shown, visible_in}
use Rattle.world.specs.GroupView.{GroupView, RefinesGroup, ClientsKnowNumbers, nodes_of, node_in, client_in, client_view, renumbered}
use Rattle.world.specs.GroupShown.{HasShown, ShownBySpec}
use Rattle.world.proofs.GroupClients.{node_of, nodes_stay}
use Rattle.world.proofs.GroupReplays.{run_length}
use Rattle.world.proofs.Zips.{zip_length, zip_from}
use Rattle.event_book.specs.Actors.{same_actor, lists_actor}
use Rattle.event_book.specs.declared.view.Note.{Note}
use Rattle.event_book.proofs.Logs.{all_map}
use Rattle.cells.specs.declared.own_input.OwnInput.{OwnInput}
use Rattle.actor.specs.declared.group_actor.GroupActor.{GroupActor}
use Rattle.actor.specs.declared.group_actor.GroupActor.TheVariants as group_actors
use Rattle.cluster.specs.declared.closing.NamedActor.{NamedActor}
use Rattle.cells.specs.Actors.{BeginsAs, HasNode, IsNewActor, group_size}
use Rattle.cells.specs.Cells.{CellView, IsOpenedCell}
use Rattle.cells.specs.Groups.{AreOfGroup, cell_actors}
use Rattle.cluster.specs.Closing.{ShowsActor, HasCell, ClosesTo, IsSeen, ShowsAtLast, noted_events}
use Rattle.cluster.specs.Inner.Closed.{IsClosed, named_in}
use Rattle.cluster.specs.Inner.Joined.{agent_named, IsAmong, HasClients, AreNodesOf}
use Rattle.cluster.specs.Inner.Runs.{EventsLead, GroupLeads, RunsToLast}
use Rattle.cluster.proofs.CellWorlds.{CellWorld}
use Rattle.cluster.proofs.Merge.{same_actor-true}
use Rattle.cluster.proofs.Closes.{ClosedRun, closes}
use Rattle.cluster.proofs.Moves.{ReadsAgain}
use Rattle.cluster.proofs.Standing.{Stands, runs_on}
use Rattle.cluster.proofs.FirstWorlds.{IsFirst, stands_first}

-- ---- lists by their places

-- a list of m items, of each of which P holds at its place
record Chosen {A : Type 0} (P : ℕ → A → Type 0) (m : ℕ) : Type 0 where
  list : List A
  count : length list ≡ m
  at : (k : ℕ) → k < m → (x : A) × (slice_get list k ≡ Some x) × P k x

module _ {A : Type 0} where
  in_front : (P : ℕ → A → Type 0) (m : ℕ) (x : A) (xs : List A) → P 0 x →
      ((k : ℕ) → k < m → (y : A) × (slice_get xs k ≡ Some y) × P (suc k) y) → (k : ℕ) → k < suc m →
      (y : A) × (slice_get (x ∷ xs) k ≡ Some y) × P k y
  in_front P m x xs p h zero less = (x, refl, p)
  in_front P m x xs p h (suc k) less = h k (omega (arith, less))

  chosen : (P : ℕ → A → Type 0) (m : ℕ) → ((k : ℕ) → k < m → (x : A) × P k x) → Chosen P m
  chosen P zero h = record { list = []; count = refl; at = λ k less. absurd (omega (arith, less)) }
  chosen P (suc m) h =
      let x = h 0 (omega arith) in
      let r = chosen (λ k. P (suc k)) m (λ k less. h (suc k) (omega (arith, less))) in
      record {
        list = x.0 ∷ r.list;
        count = ap suc r.count;
        at = in_front P m x.0 r.list x.1 r.at;
      }

  same_by_positions : (xs ys : List A) → length xs ≡ length ys →
      ((k : ℕ) (x : A) → slice_get xs k ≡ Some x → slice_get ys k ≡ Some x) → xs ≡ ys
  same_by_positions [] [] count h = refl
  same_by_positions [] (y ∷ ys) count h = absurd (omega arith)
  same_by_positions (x ∷ xs) [] count h = absurd (omega arith)
  same_by_positions (x ∷ xs) (y ∷ ys) count h =
      let is : y ≡ x = same_Some y x (h 0 x refl) in
      let rest = same_by_positions xs ys (omega arith) (λ k z at. h (suc k) z at) in
      λ i. (sym is) i ∷ rest i

  all_at : (P : A → Type 0) (xs : List A) (k : ℕ) (x : A) → AllByRecursion P xs →
      slice_get xs k ≡ Some x → P x
  all_at P [] k x all at = absurd (none-some x at)
  all_at P (y ∷ xs) zero x all at = subst P (same_Some y x at) all.0
  all_at P (y ∷ xs) (suc k) x all at = all_at P xs k x all.1 at

-- ---- nodes

agents_again : (k : ℕ) (nodes : List NodeSpec) → agents_from k (renumbered k nodes) ≡ agents_from k nodes
agents_again k [] = refl
agents_again k (node ∷ nodes) =
    ap (λ l. agent_of (record node { number = k }) ∷ l) (agents_again (suc k) nodes)

agents_nodes : (k : ℕ) (nodes : List NodeSpec) →
    map node_of (agents_from k nodes) ≡ renumbered k nodes
agents_nodes k [] = refl
agents_nodes k (node ∷ nodes) =
    ap (λ l. record node { number = k } ∷ l) (agents_nodes (suc k) nodes)

renumbered_again : (k : ℕ) (nodes : List NodeSpec) →
    renumbered k (renumbered k nodes) ≡ renumbered k nodes
renumbered_again k [] = refl
renumbered_again k (node ∷ nodes) =
    ap (λ l. record node { number = k } ∷ l) (renumbered_again (suc k) nodes)

-- each is the one at its place among these, renumbered
abbrev AreAtPositions : ℕ → List NodeSpec → List NodeSpec → Type 0
AreAtPositions k nodes given =
    (j : ℕ) (x : NodeSpec) → slice_get nodes j ≡ Some x →
    (y : NodeSpec) × (slice_get given j ≡ Some y) × (x ≡ record y { number = k + j })

first_given : (k : ℕ) (nodes given : List NodeSpec) → AreAtPositions k nodes given →
    renumbered k nodes ≡ renumbered k (take (length nodes) given)
first_given k [] given h = refl
first_given k (x ∷ nodes) [] h = let q = h 0 x refl in absurd (none-some q.0 q.1)
first_given k (x ∷ nodes) (y ∷ given) h =
    let q = h 0 x refl in
    let z : NodeSpec = q.0 in
    let is : y ≡ z = same_Some y z q.1 in
    let head : record x { number = k } ≡ record y { number = k } =
    ap (λ (v : NodeSpec). record v { number = k }) q.2
    ∙ ap (λ (v : NodeSpec). record v { number = k }) (sym is) in
    let more = first_given (suc k) nodes given
    (λ j v at.
    let p = h (suc j) v at in
    let w : NodeSpec = p.0 in
    let place : k + suc j ≡ suc k + j = omega arith in
    (w, p.1, p.2 ∙ ap (λ i. record w { number = i }) place)) in
    λ i. head i ∷ more i

renumbered_length : (k : ℕ) (nodes : List NodeSpec) → length (renumbered k nodes) ≡ length nodes
renumbered_length k [] = refl
renumbered_length k (node ∷ nodes) = ap suc (renumbered_length (suc k) nodes)

-- the group whose nodes are numbered already begins alike
first_again : (n : ℕ) (nodes : List NodeSpec) →
    first n (renumbered 1 nodes) ≡ first n nodes
first_again n nodes = λ i. record (first n nodes) { clients = agents_again 1 nodes i }

-- no event changes a node
lead_nodes : (w last : World) (events : List Event) → EventsLead w events last →
    map node_of last.clients ≡ map node_of w.clients
lead_nodes w last [] lead = ap (λ (v : World). map node_of v.clients) (sym lead)
lead_nodes w last (e ∷ es) lead =
    lead_nodes lead.0 last es lead.2 ∙ nodes_stay w e lead.0 lead.1

-- ---- the actors at first

record NewAgent (n k : ℕ) (given : List NodeSpec) (c : CellWorld) (node : NodeSpec) : Type 0 where
  agent : AgentView
  here : c.at (actors.Client (suc k)) ≡ Some (group_actors.Client agent)
  new : IsNewActor n (actors.Client (suc k)) (group_actors.Client agent)
  its : node ≡ agent.client.node
  has : HasNode given (actors.Client (suc k)) (group_actors.Client agent)

record NewServer (n i : ℕ) (c : CellWorld) : Type 0 where
  server : ServerView
  here : c.at (actors.Server i) ≡ Some (group_actors.Server server)
  new : IsNewActor n (actors.Server i) (group_actors.Server server)

module _ (n m : ℕ) (given : List NodeSpec) (all : List Actor) (log : List (Note OwnInput))
    (cells : List CellView) (r : ClosedRun (BeginsAs n given) all log cells) (g : AreOfGroup n m all) where
  new_server : (i : ℕ) (s : GroupActor) → r.first.at (actors.Server i) ≡ Some s →
      BeginsAs n given (actors.Server i) s → NewServer n i r.first
  new_server i (group_actors.Server v) here new = record { server = v; here = here; new = new.0 }
  new_server i (group_actors.Client a) here new = absurd new.0

  new_client : (k : ℕ) (s : GroupActor) → r.first.at (actors.Client (suc k)) ≡ Some s →
      BeginsAs n given (actors.Client (suc k)) s →
      (node : NodeSpec) × NewAgent n k given r.first node
  new_client k (group_actors.Server v) here new = absurd new.0
  new_client k (group_actors.Client a) here new =
      (a.client.node, record { agent = a; here = here; new = new.0; its = refl; has = new.1 })

  -- whatever is there is one of the book's actors
  is_there : (a : Actor) (s : GroupActor) → r.first.at a ≡ Some s → (b : Bool) →
      lists_actor all a ≡ b → lists_actor all a ≡ true
  is_there a s here true e = e
  is_there a s here false e = absurd (none-some s (sym (r.outside a e) ∙ here))

  first_nodes : Chosen (λ k node. NewAgent n k given r.first node) m
  first_nodes = chosen (λ k node. NewAgent n k given r.first node) m
      (λ k less.
      let s = r.opens.1 (actors.Client (suc k)) (g.clients k less) in new_client k s.0 s.1 s.2)

  is_first : (c : Chosen (λ k node. NewAgent n k given r.first node) m) → IsFirst n c.list r.first
  is_first c = record {
    sent = r.opens.0;
    servers = λ i less.
        let s = r.opens.1 (actors.Server i) (g.servers i less) in
        let v = new_server i s.0 s.1 s.2 in
        (v.server, v.here, v.new);
    clients = λ k less.
        let q = c.at k (omega (arith, less, c.count)) in
        let a : NewAgent n k given r.first q.0 = q.2 in
        (a.agent, a.here, a.new, q.1 ∙ ap Some a.its);
    no_more_servers = λ i a at.
        g.no_more_servers i (is_there (actors.Server i) a at (lists_actor all (actors.Server i)) refl);
    no_more_clients = λ k a at.
        let p = g.no_more_clients k
        (is_there (actors.Client k) a at (lists_actor all (actors.Client k)) refl) in
        (p.0, p.1, omega (arith, p.2, c.count));
  }

  are_at_positions : (c : Chosen (λ k node. NewAgent n k given r.first node) m) →
      AreAtPositions 1 c.list given
  are_at_positions c j x at =
      let q = c.at j (omega (arith, slice_get_within c.list j x at, c.count)) in
      let a : NewAgent n j given r.first q.0 = q.2 in
      let h = a.has in
      let spec : NodeSpec = h.1 in
      let place : h.0 ≡ j = omega (arith, h.2) in
      let one : suc j ≡ 1 + j = omega arith in
      let is : x ≡ q.0 = same_Some x q.0 (sym at ∙ q.1) in (
        spec,
        ap (slice_get given) (sym place) ∙ h.3,
        is ∙ a.its ∙ h.4 ∙ ap (λ i. record spec { number = i }) one,
      )

-- ---- the world of a closed book

-- what the cells noted leads to a world for which their actors stand
pub record StandsAtLast (n m : ℕ) (given : List NodeSpec) (log : List (Note OwnInput)) (cells : List CellView) : Type 0 where
  pub nodes : List NodeSpec
  pub count : length nodes ≡ m
  pub given_are : renumbered 1 nodes ≡ renumbered 1 (take m given)
  pub last : CellWorld
  pub world : World
  pub leads : EventsLead (first n nodes) (noted_events log log) world
  pub stands : Stands last world
  pub ends : AllByRecursion (λ (c : CellView). last.at c.seat.actor ≡ Some c.actor) cells

pub stands_at_last : ReadsAgain → (n m : ℕ) (given : List NodeSpec) (all : List Actor) →
    (log : List (Note OwnInput)) (cells : List CellView) → IsClosed all given log cells →
    AreOfGroup n m all → group_size all ≡ n → StandsAtLast n m given log cells
stands_at_last again n m given all log cells closed g size =
    let led = subst (λ k. AllByRecursion (IsOpenedCell k given) cells) size closed.led in
    let r = closes (BeginsAs n given) all log cells led closed.whole closed.apart closed.all
    closed.within in
    let c = first_nodes n m given all log cells r g in
    let start = stands_first n c.list r.first (is_first n m given all log cells r g c) in
    let q = runs_on again (noted_events log log) r.first r.last (first n c.list) r.runs start in
    record {
      nodes = c.list;
      count = c.count;
      given_are = first_given 1 c.list given (are_at_positions n m given all log cells r g c)
          ∙ ap (λ k. renumbered 1 (take k given)) c.count;
      last = r.last;
      world = q.0;
      leads = q.1;
      stands = q.2;
      ends = r.ends;
    }

-- ---- the actors of the cells

-- one of the cells is this actor's
record HasCellOf (cells : List CellView) (at : Actor → Option GroupActor) (a : Actor) : Type 0 where
  place : ℕ
  actor : GroupActor
  named : slice_get (map named_in cells) place ≡ Some (record { me = a; actor = actor })
  here : at a ≡ Some actor

module _ (at : Actor → Option GroupActor) (a : Actor) where
  abbrev Ends : CellView → Type 0
  Ends c = at c.seat.actor ≡ Some c.actor

  one_of : (c : CellView) (cs : List CellView) → Ends c →
      (lists_actor (cell_actors cs) a ≡ true → HasCellOf cs at a) → (b : Bool) →
      same_actor c.seat.actor a ≡ b → (b || lists_actor (cell_actors cs) a) ≡ true →
      HasCellOf (c ∷ cs) at a
  one_of c cs end rest true same inn =
      let is = same_actor-true c.seat.actor a same in
      record {
        place = 0;
        actor = c.actor;
        named = ap (λ b. Some (record { me = b; actor = c.actor })) is;
        here = ap at (sym is) ∙ end;
      }
  one_of c cs end rest false same inn =
      let r = rest inn in
      record { place = suc r.place; actor = r.actor; named = r.named; here = r.here }

  cell_of : (cells : List CellView) → AllByRecursion Ends cells →
      lists_actor (cell_actors cells) a ≡ true → HasCellOf cells at a
  cell_of [] ends inn = absurd (true≢false (sym inn))
  cell_of (c ∷ cs) ends inn =
      one_of c cs ends.0 (cell_of cs ends.1) (same_actor c.seat.actor a) refl inn

-- a client's actor is the client of the world
record IsAgentOf (w : World) (c : ℕ) (s : GroupActor) : Type 0 where
  client : Agent
  there : client_at w.clients c ≡ Some client
  is : s ≡ group_actors.Client (record { size = length w.servers; client = client })

record IsServerOf (w : World) (i : ℕ) (s : GroupActor) : Type 0 where
  server : Server
  there : slice_get w.servers i ≡ Some server
  view : ServerView
  is : s ≡ group_actors.Server view
  refines : RefinesServer view server

module _ (c : CellWorld) (w : World) (st : Stands c w) where
  is_client : (k : ℕ) (s : GroupActor) → c.at (actors.Client k) ≡ Some s → IsAgentOf w k s
  is_client k s at =
      let x = st.client_there k s at in
      let q = st.clients k x.0 x.1 in
      record { client = x.0; there = x.1; is = same_Some s _ (sym at ∙ q.0) }

  is_server : (i : ℕ) (s : GroupActor) → c.at (actors.Server i) ≡ Some s → IsServerOf w i s
  is_server i s at =
      let m = st.server_there i s at in
      let q = st.servers i m.0 m.1 in
      record {
        server = m.0;
        there = m.1;
        view = q.0;
        is = same_Some s _ (sym at ∙ q.1);
        refines = q.4;
      }

agent_is : (a b : AgentView) → group_actors.Client a ≡ group_actors.Client b → a ≡ b
agent_is a b e = cc

server_is : (v x : ServerView) → group_actors.Server v ≡ group_actors.Server x → v ≡ x
server_is v x e = cc

-- ---- the actors of the cells are seen

module _ (c : CellWorld) (w : World) (st : Stands c w) where
  is_seen : (a : Actor) (s : GroupActor) → c.at a ≡ Some s → IsSeen (visible_in w) a s
  is_seen (actors.Server i) (group_actors.Server v) at =
      let q = is_server c w st i (group_actors.Server v) at in
      let same = sym (server_is v q.view q.is) in (
        q.server,
        subst (λ y. RefinesServer y q.server) same q.refines,
        get_map state_shown w.servers i q.server q.there,
      )
  is_seen (actors.Server i) (group_actors.Client a) at = let q = is_server c w st i (group_actors.Client a) at in absurd (cc)
  is_seen (actors.Client k) (group_actors.Server v) at = let q = is_client c w st k (group_actors.Server v) at in absurd (cc)
  is_seen (actors.Client zero) (group_actors.Client a) at =
      let q = is_client c w st 0 (group_actors.Client a) at in absurd (none-some q.client q.there)
  is_seen (actors.Client (suc k)) (group_actors.Client a) at =
      let q = is_client c w st (suc k) (group_actors.Client a) at in
      get_map started_by w.clients k q.client q.there
      ∙ ap (λ (b : AgentView). Some b.client.started) (sym (agent_is a _ q.is))

-- ---- the world has the actors of the cells

module _ (view : GroupView) (c : CellWorld) (w : World) (st : Stands c w)
    (rep : RefinesGroup view w) (places : ClientsKnowNumbers view) where
  has_client : (k : ℕ) (x : Agent) → client_at w.clients k ≡ Some x →
      client_view view.clients k ≡ Some (record { size = length w.servers; client = x })
  has_client zero x at = absurd (none-some x at)
  has_client (suc k) x at =
      let b = map_get client_in view.clients k x (ap (λ l. slice_get l k) rep.clients ∙ at) in
      let size = (places k b.0 b.1).1 ∙ zip_length RefinesServer view.servers w.servers rep.servers in
      b.1 ∙ (λ i. Some (record { size = size i; client = b.2 i }))

  has_actor : (a : Actor) (s : GroupActor) → c.at a ≡ Some s → ShowsActor view a s
  has_actor (actors.Server i) (group_actors.Server v) at =
      let q = is_server c w st i (group_actors.Server v) at in
      let x = zip_from RefinesServer view.servers w.servers i q.server rep.servers q.there in
      let same = sym (server_is v q.view q.is) in
      (x.0, q.server, x.1, subst (λ y. RefinesServer y q.server) same q.refines, x.2)
  has_actor (actors.Server i) (group_actors.Client a) at = let q = is_server c w st i (group_actors.Client a) at in absurd (cc)
  has_actor (actors.Client k) (group_actors.Server v) at = let q = is_client c w st k (group_actors.Server v) at in absurd (cc)
  has_actor (actors.Client k) (group_actors.Client a) at =
      let q = is_client c w st k (group_actors.Client a) at in
      has_client k q.client q.there ∙ ap Some (sym (agent_is a _ q.is))

-- ---- what joining the cells asks for and gives

module _ (n m : ℕ) (given : List NodeSpec) (all : List Actor) (log : List (Note OwnInput))
    (cells : List CellView) (closed : IsClosed all given log cells) (g : AreOfGroup n m all)
    (at : StandsAtLast n m given log cells) where
  pub clients_are_there : HasClients m (map named_in cells)
  clients_are_there k less =
      let a = actors.Client (suc k) in
      let c = cell_of at.last.at a cells at.ends (closed.all a (g.clients k less)) in
      let q = is_client at.last at.world at.stands (suc k) c.actor c.here in (
        record { size = length at.world.servers; client = q.client },
        (c.place, c.named ∙ ap (λ s. Some (record { me = a; actor = s })) q.is),
      )

  world_nodes : map node_of at.world.clients ≡ renumbered 1 at.nodes
  world_nodes =
      lead_nodes (first n at.nodes) at.world (noted_events log log) at.leads ∙ agents_nodes 1 at.nodes

  module _ (nodes : List NodeSpec) (are : AreNodesOf m (map named_in cells) nodes) where
    -- the node of a client's cell is that of the client in the world
    node_is : (k : ℕ) (node : NodeSpec) → slice_get nodes k ≡ Some node →
        slice_get (map node_of at.world.clients) k ≡ Some node
    node_is k node here =
        let its = are.each k node here in
        let among : IsAmong (map named_in cells) (suc k) its.0 = its.1 in
        let c = map_get named_in cells among.0 (agent_named (suc k) its.0) among.1 in
        let end = all_at (λ (x : CellView). at.last.at x.seat.actor ≡ Some x.actor) cells among.0
        c.0 at.ends c.1 in
        let there = ap (λ (x : NamedActor). at.last.at x.me) (sym c.2) ∙ end
        ∙ ap (λ (x : NamedActor). Some x.actor) c.2 in
        let q = is_client at.last at.world at.stands (suc k) (group_actors.Client its.0) there in
        get_map node_of at.world.clients k q.client q.there
        ∙ ap (λ (a : AgentView). Some a.client.node) (sym (agent_is its.0 _ q.is))
        ∙ ap Some (sym its.2)

    nodes_are : nodes ≡ renumbered 1 at.nodes
    nodes_are =
        let length_is = ap length world_nodes ∙ renumbered_length 1 at.nodes ∙ at.count in
        same_by_positions nodes (map node_of at.world.clients) (are.count ∙ sym length_is) node_is
        ∙ world_nodes

    pub group_leads : GroupLeads n nodes (noted_events log log) at.world
    group_leads =
        let same : first n (renumbered 1 nodes) ≡ first n at.nodes =
        first_again n nodes ∙ ap (first n) nodes_are ∙ first_again n at.nodes in
        subst (λ w. EventsLead w (noted_events log log) at.world) (sym same) at.leads

    -- they are the first of those that the group was opened with
    pub first_of_given : renumbered 1 nodes ≡ renumbered 1 (take m given)
    first_of_given =
        ap (renumbered 1) nodes_are ∙ renumbered_again 1 at.nodes ∙ at.given_are

    -- a value that played what the cells noted is the world that they close to
    pub closes_to : (view : GroupView) → view.trace ≡ noted_events log log → length view.servers ≡ n →
        nodes_of view ≡ renumbered 1 nodes → ClientsKnowNumbers view →
        RunsToLast n nodes (noted_events log log) view → ClosesTo all cells view
    closes_to view trace count nodes_is places last =
        let ends = last at.world group_leads in
        let rep = ends.1.refines in
        let clients : length view.clients ≡ m =
        sym (map_length node_in view.clients) ∙ ap length nodes_is ∙ renumbered_length 1 nodes
        ∙ are.count in
        record {
          log = log;
          whole = closed.whole;
          trace = trace;
          actors = all_map (λ (c : CellView). at.last.at c.seat.actor ≡ Some c.actor) (HasCell view)
              cells
              (λ c end. has_actor view at.last at.world at.stands rep places c.seat.actor c.actor
              end) at.ends;
          group = subst (λ k. AreOfGroup k (length view.clients) all) (sym count)
              (subst (λ k. AreOfGroup n k all) (sym clients) g);
          each = closed.all;
          apart = closed.apart;
          within = closed.within;
        }

    -- and at the end of its run the cells' actors are seen
    pub shows_at_last : (view : GroupView) → RunsToLast n nodes (noted_events log log) view →
        ShownBySpec view → ShowsAtLast cells view
    shows_at_last view ends spec =
        let q = ends at.world group_leads in
        let run = q.1.run in
        let before : List Visible = map visible_in q.0 in
        let has : HasShown view (before ++ visible_in at.world ∷ []) =
        record {
          past = q.0;
          world = at.world;
          run = run;
          is = sym (map_append visible_in q.0 (at.world ∷ []));
        } in
        let shown = spec (before ++ visible_in at.world ∷ []) has in
        record {
          before = before;
          now = visible_in at.world;
          last = shown.0;
          behavior = shown.1;
          moments = map_length visible_in q.0
              ∙ run_length (length view.servers) (nodes_of view) view.trace q.0 at.world run;
          each = all_map (λ (c : CellView). at.last.at c.seat.actor ≡ Some c.actor)
              (λ (c : CellView). IsSeen (visible_in at.world) c.seat.actor c.actor) cells
              (λ c end. is_seen at.last at.world at.stands c.seat.actor c.actor end) at.ends;
          has = has;
        }
