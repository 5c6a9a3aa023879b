-- The nodes of the clients among the actors of cells.
use Rattle.std.proofs.Common.{◌≡◌, ◌≢◌, ℕ, suc, ◌+◌, ◌≤◌, inl, inr, Some, List, [], ◌∷◌, ◌++◌, length, sym, ◌∙◌, subst, arith, slice_get}
use Rattle.std.proofs.lemmas.Bool.{cases_lt}
use Rattle.std.proofs.lemmas.Option.{same_Some, slice_get_within}
use Rattle.rows.specs.declared.node.NodeSpec.{NodeSpec}
use Rattle.raft_safety.proofs.Places.{get-where, get-one, push_length}
use Rattle.client_agent.specs.AgentView.{AgentView}
use Rattle.cluster.specs.declared.closing.NamedActor.{NamedActor}
use Rattle.cluster.specs.Inner.Joined.{agent_named, HasClient, NoneBefore, IsNodeOf, AreNodesOf}

-- one more is not the agent of client c
pub none_more : (named : List NamedActor) (c k : ℕ) (x : NamedActor) →
    slice_get named k ≡ Some x → ((a : AgentView) → x ≢ agent_named c a) → NoneBefore named c k →
    NoneBefore named c (k + 1)
none_more named c k x here not before place less a at = elim (cases_lt place k) [
  | inl below ↦ before place below a at
  | inr past ↦
      let same : place ≡ k = omega (arith, less, past) in
      let there : slice_get named k ≡ Some (agent_named c a) =
      subst (λ p. slice_get named p ≡ Some (agent_named c a)) same at in
      not a (same_Some x (agent_named c a) (sym here ∙ there))
]

-- one of all is
pub not_none : (named : List NamedActor) (c k : ℕ) → length named ≤ k → NoneBefore named c k →
    HasClient named c → ⊥
not_none named c k long none has =
    let at = has.1 in
    let less = slice_get_within named at.0 (agent_named c has.0) at.1 in
    none at.0 (omega (arith, long, less)) has.0 at.1

-- the node of the next client
pub nodes_more : (named : List NamedActor) (k c : ℕ) (nodes more : List NodeSpec) (node : NodeSpec) →
    suc k ≡ c → more ≡ nodes ++ node ∷ [] → IsNodeOf named c node → AreNodesOf k named nodes →
    AreNodesOf (k + 1) named more
nodes_more named k c nodes more node place is its are = subst (AreNodesOf (k + 1) named) (sym is) (record {
  count = omega (arith, push_length nodes node, are.count);
  each = λ j x at. elim (get-where nodes (node ∷ []) j x at) [
    | inl h ↦ are.each j x h.1
    | inr h ↦
        let one : (i : ℕ) × (slice_get (node ∷ []) i ≡ Some x) = h.1 in
        let less = slice_get_within (nodes ++ node ∷ []) j x at in
        let last : c ≡ suc j = omega (arith, place, less, h.0, push_length nodes node, are.count) in
        subst (λ p. IsNodeOf named p x) last
        (subst (IsNodeOf named c) (get-one node one.0 x one.1) its)
  ];
})
