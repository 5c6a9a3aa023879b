-- The world for which new actors in their cells stand.
use Rattle.std.proofs.Common.{◌≡◌, ℕ, zero, suc, ◌+◌, ◌<◌, Some, List, [], ◌∷◌, map, length, replicate, refl, sym, ap, ◌∙◌, subst, arith, slice_get}
use Rattle.std.proofs.lemmas.List.{length-replicate}
use Rattle.std.proofs.lemmas.Option.{same_Some, slice_get_within}
use Rattle.std.specs.List.{AllZip}
use Rattle.rows.specs.declared.actor.Actor.TheVariants as actors
use Rattle.rows.specs.declared.node.NodeSpec.{NodeSpec}
use Rattle.raft_safety.proofs.Places.{get-some, replicate-get}
use Rattle.fsm_model.specs.ClusterMachine.{cluster_spec}
use Rattle.group_model.specs.Servers.{newcomer}
use Rattle.group_model.specs.Agents.{Agent, agent_of}
use Rattle.group_model.specs.Worlds.{first, agents_from, client_at}
use Rattle.group_frames.specs.GroupFrames.{CarriesGroup}
use Rattle.client_agent.specs.AgentView.{AgentView}
use Rattle.server.specs.ServerViews.{ServerView, RefinesServer}
use Rattle.actor.specs.declared.group_actor.GroupActor.{GroupActor}
use Rattle.actor.specs.declared.group_actor.GroupActor.TheVariants.{Server, Client}
use Rattle.cells.specs.Actors.{output_frame, IsNewActor}
use Rattle.cluster.proofs.CellWorlds.{CellWorld}
use Rattle.cluster.proofs.Standing.{Stands}

-- These are n new servers, and a new client for each of the nodes, which are numbered from 1;
-- nothing else is there, and nothing was sent.
pub record IsFirst (n : ℕ) (nodes : List NodeSpec) (c : CellWorld) : Type 0 where
  pub sent : c.sent ≡ []
  pub servers : (i : ℕ) → i < n →
      (v : ServerView) × (c.at (actors.Server i) ≡ Some (Server v))
      × IsNewActor n (actors.Server i) (Server v)
  pub clients : (k : ℕ) → k < length nodes →
      (a : AgentView) × (c.at (actors.Client (suc k)) ≡ Some (Client a))
      × IsNewActor n (actors.Client (suc k)) (Client a) × (slice_get nodes k ≡ Some a.client.node)
  pub no_more_servers : (i : ℕ) (a : GroupActor) → c.at (actors.Server i) ≡ Some a → i < n
  pub no_more_clients : (k : ℕ) (a : GroupActor) → c.at (actors.Client k) ≡ Some a →
      (p : ℕ) × (k ≡ suc p) × (p < length nodes)

-- the client of a node stands at its place
agent_at : (k : ℕ) (nodes : List NodeSpec) (p : ℕ) (x : Agent) →
    slice_get (agents_from k nodes) p ≡ Some x →
    (node : NodeSpec) × (slice_get nodes p ≡ Some node)
    × (x ≡ agent_of (record node { number = k + p }))
agent_at k [] p x h = absurd (cc)
agent_at k (node ∷ nodes) zero x h =
    let place : k ≡ k + 0 = omega arith in
    (node, refl, sym (same_Some _ x h) ∙ ap (λ j. agent_of (record node { number = j })) place)
agent_at k (node ∷ nodes) (suc p) x h =
    let r = agent_at (suc k) nodes p x h in
    let place : suc k + p ≡ k + suc p = omega arith in
    (r.0, r.1, r.2 ∙ ap (λ j. agent_of (record r.0 { number = j })) place)

pub agents_length : (k : ℕ) (nodes : List NodeSpec) → length (agents_from k nodes) ≡ length nodes
agents_length k [] = refl
agents_length k (node ∷ nodes) = ap suc (agents_length (suc k) nodes)

module _ (n : ℕ) (nodes : List NodeSpec) (c : CellWorld) (f : IsFirst n nodes c) where
  first_client : (k : ℕ) (x : Agent) → client_at (agents_from 1 nodes) k ≡ Some x →
      (c.at (actors.Client k) ≡ Some (Client (record { size = n; client = x })))
      × (x.node.number ≡ k)
  first_client zero x at = absurd (cc)
  first_client (suc p) x at =
      let q = agent_at 1 nodes p x at in
      let a = f.clients p (slice_get_within nodes p q.0 q.1) in
      let new = a.2 in
      let node : q.0 ≡ a.0.client.node = same_Some q.0 a.0.client.node (sym q.1 ∙ a.3) in
      let place : 1 + p ≡ suc p = omega arith in
      let same : record q.0 { number = 1 + p } ≡ a.0.client.node =
      λ t. record (node t) { number = (place ∙ sym new.2) t } in
      let is : x ≡ a.0.client = q.2 ∙ ap agent_of same ∙ sym new.1 in
      let whole : a.0 ≡ record { size = n; client = x } =
      λ t. record { size = new.0 t; client = (sym is) t } in
      (a.1 ∙ ap (λ b. Some (Client b)) whole, ap (λ (y : Agent). y.node.number) is ∙ new.2)

  first_client_there : (k : ℕ) (a : GroupActor) → c.at (actors.Client k) ≡ Some a →
      (x : Agent) × (client_at (agents_from 1 nodes) k ≡ Some x)
  first_client_there k a at =
      let p = f.no_more_clients k a at in
      let x = get-some (agents_from 1 nodes) p.0 (omega (arith, p.2, agents_length 1 nodes)) in
      (x.0, ap (λ j. client_at (agents_from 1 nodes) j) p.1 ∙ x.1)

pub stands_first : (n : ℕ) (nodes : List NodeSpec) (c : CellWorld) → IsFirst n nodes c →
    Stands c (first n nodes)
stands_first n nodes c f =
    let count : n ≡ length (replicate n newcomer) = sym (length-replicate n newcomer) in
    record {
      servers = λ i m at.
          let s = f.servers i
          (omega (
            arith,
            slice_get_within (replicate n newcomer) i m at,
            length-replicate n newcomer,
          )) in
          let new = s.2 in (
            s.0,
            s.1,
            new.0,
            new.1 ∙ count,
            subst (λ x. RefinesServer s.0 x) (replicate-get n newcomer i m at) new.2,
          );
      clients = λ k x at.
          let q = first_client n nodes c f k x at in
          (q.0 ∙ ap (λ j. Some (Client (record { size = j; client = x }))) count, q.1);
      server_there =
          λ i a at. get-some (replicate n newcomer) i
          (omega (arith, f.no_more_servers i a at, length-replicate n newcomer));
      client_there = λ k a at. first_client_there n nodes c f k a at;
      sent = subst (λ l. AllZip (CarriesGroup cluster_spec) (map output_frame l) []) (sym f.sent) tt;
    }
