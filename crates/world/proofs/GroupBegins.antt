-- A group before its first event.
use Rattle.std.proofs.Common.{◌≡◌, ℕ, zero, suc, ◌+◌, ◌<◌, ◌≤◌, ◌⊎◌, inl, inr, Some, List, [], ◌∷◌, ◌++◌, length, length-append, map, take, replicate, get_or, refl, sym, ap, ◌∙◌, subst, arith, slice_get}
use Rattle.std.proofs.lemmas.List.{take_more, length-take-le}
use Rattle.std.specs.List.{AllZip, AllByRecursion}
use Rattle.rows.specs.Names.{NameFits}
use Rattle.rows.specs.Fits.{SizeFits, NodeSpecFits}
use Rattle.rows.specs.declared.node.NodeSpec.{NodeSpec}
use Rattle.raft_model.specs.Worlds as raft_worlds
use Rattle.raft_safety.specs.Claims.{IsGreatestCommit}
use Rattle.fsm_model.specs.ClusterMachine.{cluster_spec}
use Rattle.group_model.specs.Agents.{agent_of}
use Rattle.group_model.specs.Servers.{newcomer}
use Rattle.group_model.specs.Worlds.{agents_from, first, raft_of, raft_part}
use Rattle.group_safety.specs.Claims.{logs}
use Rattle.group_safety.specs.Limits.{NodesFit, LimitedRun, start}
use Rattle.group_safety.proofs.Lists.{map_replicate}
use Rattle.group_frames.specs.GroupFrames.{CarriesGroup}
use Rattle.client_agent.specs.AgentView.{AgentView}
use Rattle.server.specs.declared.server.Outbox.{Outbox}
use Rattle.server.specs.ServerViews.{ServerView, RefinesServer}
use Rattle.rows.specs.GroupSizes.{IsGroup}
use Rattle.world.specs.GroupView.{GroupView, GroupRunsTo, GroupInvariant, nodes_of, node_in, client_in, renumbered}
use Rattle.world.specs.GroupSteps.{IsNewGroup}
use Rattle.world.specs.Inner.GroupInputs.{new_agents}
use Rattle.world.specs.Inner.GroupParts.{GroupHistoryView}
use Rattle.world.proofs.Zips.{zip_append}
use Rattle.world.proofs.Heights.{first_height}

-- ---- the servers

-- the first servers are made, so many
pub record MadeServers (n made : ℕ) (servers : List ServerView) : Type 0 where
  pub count : length servers ≡ made
  pub places : (i : ℕ) (s : ServerView) → slice_get servers i ≡ Some s → (s.raft.me ≡ i) × (s.raft.size ≡ n)
  pub newcomers : AllZip RefinesServer servers (replicate made newcomer)

get_end : {A : Type 0} (xs : List A) (x : A) (j : ℕ) (y : A) → slice_get (xs ++ x ∷ []) j ≡ Some y → (slice_get xs j ≡ Some y) ⊎ ((j ≡ length xs) × (x ≡ y))
get_end [] x zero y h = inr (refl, cc)
get_end [] x (suc j) y h = absurd (cc)
get_end (z ∷ zs) x zero y h = inl h
get_end (z ∷ zs) x (suc j) y h = elim (get_end zs x j y h) [ inl e ↦ inl e | inr e ↦ inr (ap suc e.0, e.1) ]

one_more : {A : Type 0} (k : ℕ) (x : A) → replicate k x ++ x ∷ [] ≡ replicate (suc k) x
one_more zero x = refl
one_more (suc k) x = ap (λ l. x ∷ l) (one_more k x)

pub server_more : (n made : ℕ) (servers after : List ServerView) (s : ServerView) → MadeServers n made servers → after ≡ servers ++ s ∷ [] → (s.raft.me ≡ made) × (s.raft.size ≡ n) → RefinesServer s newcomer → MadeServers n (made + 1) after
server_more n made servers after s b pushed is r =
    let next : made + 1 ≡ suc made = omega arith in
    subst (λ l. MadeServers n (made + 1) l) (sym pushed) (record {
      count = (let c = b.count in omega (arith, length-append servers (s ∷ [])));
      places = λ j a at. elim (get_end servers s j a at) [
        | inl e ↦ b.places j a e
        | inr e ↦ subst (λ (x : ServerView). (x.raft.me ≡ j) × (x.raft.size ≡ n)) e.1 (is.0 ∙ sym (e.0 ∙ b.count), is.1)
      ];
      newcomers = subst (λ k. AllZip RefinesServer (servers ++ s ∷ []) (replicate k newcomer)) (sym next)
          (subst (λ l. AllZip RefinesServer (servers ++ s ∷ []) l) (one_more made newcomer) (zip_append RefinesServer servers (replicate made newcomer) (s ∷ []) (newcomer ∷ []) b.newcomers (r, tt)));
    })

-- ---- the clients

pub one_agent_more : (n k : ℕ) (nodes : List NodeSpec) (node : NodeSpec) → new_agents n k (nodes ++ node ∷ []) ≡ new_agents n k nodes ++ record { size = n; client = agent_of (record node { number = k + length nodes }) } ∷ []
one_agent_more n k [] node = ap (λ j. record { size = n; client = agent_of (record node { number = j }) } ∷ []) (omega arith)
one_agent_more n k (x ∷ nodes) node =
    let e : suc k + length nodes ≡ k + suc (length nodes) = omega arith in
    ap (λ l. record { size = n; client = agent_of (record x { number = k }) } ∷ l)
    (one_agent_more n (suc k) nodes node ∙ ap (λ j. new_agents n (suc k) nodes ++ record { size = n; client = agent_of (record node { number = j }) } ∷ []) e)

-- the client of the next node is made
pub agent_more : (n position : ℕ) (nodes : List NodeSpec) (node : NodeSpec) (clients after : List AgentView) (a : AgentView) → position < length nodes → node ≡ get_or nodes position node → clients ≡ new_agents n 1 (take position nodes) →
    a ≡ record { size = n; client = agent_of (record node { number = suc position }) } → after ≡ clients ++ a ∷ [] → after ≡ new_agents n 1 (take (position + 1) nodes)
agent_more n position nodes node clients after a inside here were is pushed =
    let before = take position nodes in
    let more : take (position + 1) nodes ≡ before ++ node ∷ [] = take_more nodes position node inside ∙ ap (λ e. before ++ e ∷ []) (sym here) in
    let long : length before ≡ position = length-take-le position nodes (omega (arith, inside)) in
    let count : suc position ≡ 1 + length before = omega (arith, long) in
    pushed ∙ (ap (λ l. l ++ a ∷ []) were ∙ (ap (λ x. new_agents n 1 before ++ x ∷ []) is ∙
    (ap (λ j. new_agents n 1 before ++ record { size = n; client = agent_of (record node { number = j }) } ∷ []) count ∙ (sym (one_agent_more n 1 before node) ∙ ap (new_agents n 1) (sym more)))))

-- their nodes are those that were given, numbered
agents_nodes : (n k : ℕ) (nodes : List NodeSpec) → map node_in (new_agents n k nodes) ≡ renumbered k nodes
agents_nodes n k [] = refl
agents_nodes n k (node ∷ nodes) = ap (λ l. record node { number = k } ∷ l) (agents_nodes n (suc k) nodes)

-- they are the first clients of these
agents_clients : (n k : ℕ) (nodes : List NodeSpec) → map client_in (new_agents n k nodes) ≡ agents_from k (renumbered k nodes)
agents_clients n k [] = refl
agents_clients n k (node ∷ nodes) = ap (λ l. agent_of (record node { number = k }) ∷ l) (agents_clients n (suc k) nodes)

agents_places : (n k : ℕ) (nodes : List NodeSpec) (i : ℕ) (a : AgentView) → slice_get (new_agents n k nodes) i ≡ Some a → (a.client.node.number ≡ k + i) × (a.size ≡ n)
agents_places n k [] i a h = absurd (cc)
agents_places n k (node ∷ nodes) zero a h =
    let is : record { size = n; client = agent_of (record node { number = k }) } ≡ a = cc in
    subst (λ (x : AgentView). (x.client.node.number ≡ k + 0) × (x.size ≡ n)) is (omega arith, refl)
agents_places n k (node ∷ nodes) (suc i) a h = let r = agents_places n (suc k) nodes i a h in (omega (arith, r.0), r.1)

renumbered_length : (k : ℕ) (nodes : List NodeSpec) → length (renumbered k nodes) ≡ length nodes
renumbered_length k [] = refl
renumbered_length k (node ∷ nodes) = ap suc (renumbered_length (suc k) nodes)

renumbered_fit : (k : ℕ) (nodes : List NodeSpec) → AllByRecursion NodeSpecFits nodes → AllByRecursion (λ (n : NodeSpec). NameFits n.class × SizeFits n.size) (renumbered k nodes)
renumbered_fit k [] h = tt
renumbered_fit k (node ∷ nodes) h = ((h.0.1, h.0.2), renumbered_fit (suc k) nodes h.1)

-- the nodes are within their limits
pub nodes_fit : (nodes : List NodeSpec) → length nodes ≤ 64 → AllByRecursion NodeSpecFits nodes → NodesFit (renumbered 1 nodes)
nodes_fit nodes few h = (omega (arith, few, renumbered_length 1 nodes), renumbered_fit 1 nodes h)

-- ---- the group

-- nothing is committed
first_group_height : (n : ℕ) (nodes : List NodeSpec) → IsGreatestCommit (logs []) (raft_of (first n nodes)) 0
first_group_height n nodes =
    let is : raft_worlds.first n ≡ raft_of (first n nodes) = λ j. record { servers = sym (map_replicate raft_part n newcomer) j; sent = [] } in
    subst (λ w. IsGreatestCommit [] w 0) is (first_height n)

module _ (n : ℕ) (nodes : List NodeSpec) (view : GroupView) where
  -- its parts, as they are made
  pub record MadeGroup : Type 0 where
    pub size : IsGroup n
    pub few : length nodes ≤ 64
    pub count : length view.servers ≡ n
    pub places : (i : ℕ) (s : ServerView) → slice_get view.servers i ≡ Some s → (s.raft.me ≡ i) × (s.raft.size ≡ n)
    pub newcomers : AllZip RefinesServer view.servers (replicate n newcomer)
    pub agents : view.clients ≡ new_agents n 1 nodes
    pub outbox : view.outbox ≡ record { frames = []; work = [] }
    pub trace : view.trace ≡ []
    pub chain : view.chain ≡ 0

  module _ (m : MadeGroup) where
    nodes_are : nodes_of view ≡ renumbered 1 nodes
    nodes_are = ap (map node_in) m.agents ∙ agents_nodes n 1 nodes

    pub made_new : IsNewGroup n nodes view
    made_new = record {
      size = m.size;
      count = m.count;
      nodes_are = nodes_are;
      few = m.few;
      trace = m.trace;
      chain = m.chain;
      work = ap (λ (o : Outbox). o.work) m.outbox;
      refines = record {
        servers = m.newcomers;
        clients = ap (map client_in) m.agents ∙ (agents_clients n 1 nodes ∙ ap (agents_from 1) (sym nodes_are));
        sent = subst (λ l. AllZip (CarriesGroup cluster_spec) l []) (sym (ap (λ (o : Outbox). o.frames) m.outbox)) tt;
      };
    }

  pub new_group_runs : IsNewGroup n nodes view → GroupRunsTo view [] (first n (nodes_of view))
  new_group_runs g = record {
    run = subst (λ k. LimitedRun k (nodes_of view) view.trace [] (first n (nodes_of view))) (sym g.count) (subst (λ es. LimitedRun n (nodes_of view) es [] (first n (nodes_of view))) (sym g.trace) start);
    refines = g.refines;
    chain = subst (λ c. IsGreatestCommit (logs []) (raft_of (first n (nodes_of view))) c) (sym g.chain) (first_group_height n (nodes_of view));
  }

  pub made_reached : MadeGroup → AllByRecursion NodeSpecFits nodes → GroupInvariant view
  made_reached m fit = record {
    past = [];
    world = first n (nodes_of view);
    runs = new_group_runs (made_new m);
    servers = λ i s at. let k = m.places i s at in (k.0, k.1 ∙ sym m.count);
    clients = λ i a at. let k = agents_places n 1 nodes i a (subst (λ l. slice_get l i ≡ Some a) m.agents at) in (omega (arith, k.0), k.1 ∙ sym m.count);
    nodes = subst NodesFit (sym (nodes_are m)) (nodes_fit nodes m.few fit);
    size = subst IsGroup (sym m.count) m.size;
  }

pub made_group : (n : ℕ) (nodes : List NodeSpec) (servers : List ServerView) (clients : List AgentView) (h : GroupHistoryView) → IsGroup n → length nodes ≤ 64 → length servers ≡ n →
    ((i : ℕ) (s : ServerView) → slice_get servers i ≡ Some s → (s.raft.me ≡ i) × (s.raft.size ≡ n)) → AllZip RefinesServer servers (replicate n newcomer) → clients ≡ new_agents n 1 nodes →
    h ≡ record { outbox = record { frames = []; work = [] }; trace = []; chain = 0 } → MadeGroup n nodes (record { servers = servers; clients = clients; outbox = h.outbox; trace = h.trace; chain = h.chain })
made_group n nodes servers clients h size few count places newcomers agents is = record {
  size = size;
  few = few;
  count = count;
  places = places;
  newcomers = newcomers;
  agents = agents;
  outbox = ap (λ (x : GroupHistoryView). x.outbox) is;
  trace = ap (λ (x : GroupHistoryView). x.trace) is;
  chain = ap (λ (x : GroupHistoryView). x.chain) is;
}
