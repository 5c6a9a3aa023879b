-- One count put among the others: in front of those of later nodes, and in place of an old one.
use Rattle.std.proofs.Common.{◌≡◌, ℕ, zero, suc, ◌-◌, ◌<◌, Bool, true, false, ◌||◌, cond, T, List, [], ◌∷◌, drop, filter, map, Some, None, is_some, refl, sym, ap, subst, ◌∙◌, arith}
use Rattle.std.specs.Prelude.{nat_eq}
use Rattle.std.specs.List.{slice_get}
use Rattle.std.specs.Ordering.{nat_cmp, is_eq}
use Rattle.std.specs.Cmp.{nat_cmp_total}
use Rattle.rows.specs.declared.node.Node.{Node}
use Rattle.rows.specs.Keys.{node_number}
use Rattle.rows.specs.Rising.{is_below, is_rising}
use Rattle.fsm_tables.specs.Rows.{has_row, put}
use Rattle.fsm_tables.proofs.RowLaws.{first, second}
use Rattle.fsm_model.proofs.Keys.{at_number}
use Rattle.fsm_model.proofs.Lists.{maps_same, rest_from}
use Rattle.fsm_state.proofs.StepLaws.{put_only}
use Rattle.group_model.specs.Expiry.{HeartbeatCount, is_held, count_node, counted_node, heartbeat_count_of, heartbeat_counts_over, one_heartbeat_more, with_heartbeat}
use Rattle.group_model.proofs.KeptRows.{put_front, below_kept}

-- a node that is below the others comes in front of them
pub put_first : (n : Node) (nodes : List Node) → T (is_below nat_cmp node_number n.number nodes) → put nat_cmp count_node (counted_node n None) (heartbeat_counts_over nodes []) ≡ counted_node n None ∷ heartbeat_counts_over nodes []
put_first n nodes h =
    put_front nat_cmp count_node (counted_node n None) (heartbeat_counts_over nodes [])
    (below_kept nat_cmp node_number count_node (λ x. counted_node x (heartbeat_count_of x.number [])) (λ x. refl) (λ x. is_held x.status) n.number nodes h)

-- ---- from the last node to the first

rest_rises : (i : ℕ) (nodes : List Node) → T (is_rising nat_cmp node_number nodes) → T (is_rising nat_cmp node_number (drop i nodes))
rest_rises zero nodes h = h
rest_rises (suc i) [] h = h
rest_rises (suc i) (x ∷ nodes) h = rest_rises i nodes (second _ _ h)

rest_before : (nodes : List Node) (at : ℕ) (n : Node) → 0 < at → Some n ≡ slice_get nodes (at - 1) → drop (at - 1) nodes ≡ n ∷ drop at nodes
rest_before nodes at n lt e =
    let next : suc (at - 1) ≡ at = omega arith in
    rest_from nodes (at - 1) n e ∙ ap (λ i. n ∷ drop i nodes) next

-- a node comes in front of the held ones behind it
pub before_the_others : (nodes : List Node) (at : ℕ) (n : Node) → T (is_rising nat_cmp node_number nodes) → 0 < at → Some n ≡ slice_get nodes (at - 1) →
    put nat_cmp count_node (counted_node n None) (heartbeat_counts_over (drop at nodes) []) ≡ counted_node n None ∷ heartbeat_counts_over (drop at nodes) []
before_the_others nodes at n rising lt e =
    put_first n (drop at nodes) (first _ _ (subst (λ ns. T (is_rising nat_cmp node_number ns)) (rest_before nodes at n lt e) (rest_rises (at - 1) nodes rising)))

-- what one node more makes of the counts
pub over_before : (nodes : List Node) (at : ℕ) (n : Node) → 0 < at → Some n ≡ slice_get nodes (at - 1) →
    heartbeat_counts_over (drop (at - 1) nodes) [] ≡ cond (is_held n.status) (counted_node n None ∷ heartbeat_counts_over (drop at nodes) []) (heartbeat_counts_over (drop at nodes) [])
over_before nodes at n lt e = ap (λ ns. heartbeat_counts_over ns []) (rest_before nodes at n lt e) ∙ by (is_held n.status) where
  by : (b : Bool) → map (λ (x : Node). counted_node x None) (cond b (n ∷ filter (λ (x : Node). is_held x.status) (drop at nodes)) (filter (λ (x : Node). is_held x.status) (drop at nodes)))
      ≡ cond b (counted_node n None ∷ heartbeat_counts_over (drop at nodes) []) (heartbeat_counts_over (drop at nodes) [])
  by true = refl
  by false = refl

-- ---- one heartbeat more

-- a count that is found is of the node
found_node : (n : ℕ) (c : HeartbeatCount) (counts : List HeartbeatCount) → heartbeat_count_of n counts ≡ Some c → c.node ≡ n
found_node n c [] e = absurd cc
found_node n c (y ∷ counts) e =
    elim (is_eq (nat_cmp n y.node)) as (λ b. is_eq (nat_cmp n y.node) ≡ b → cond b (Some y) (heartbeat_count_of n counts) ≡ Some c → c.node ≡ n) [
      | true ↦ λ t e.
          let same : y ≡ c = cc in
          let number : y.node ≡ n = grind arith in
          ap (λ (x : HeartbeatCount). x.node) (sym same) ∙ number
      | false ↦ λ t e. found_node n c counts e
    ] refl e

-- so there is room for it in its place
pub held_again : (n : ℕ) (c : HeartbeatCount) (counts : List HeartbeatCount) (more : Bool) → heartbeat_count_of n counts ≡ Some c → T (has_row nat_cmp count_node c.node counts || more)
held_again n c counts more e =
    let held : has_row nat_cmp count_node c.node counts ≡ true = ap (λ k. has_row nat_cmp count_node k counts) (found_node n c counts e) ∙ ap is_some e in
    subst T (sym (ap (λ b. b || more) held)) tt

-- a count that is put with one beat more is one heartbeat of its node
pub put_beat : (n : ℕ) (c : HeartbeatCount) (counts : List HeartbeatCount) → T (is_rising nat_cmp count_node counts) → heartbeat_count_of n counts ≡ Some c → put nat_cmp count_node (one_heartbeat_more c) counts ≡ with_heartbeat n counts
put_beat n c counts h e =
    put_only nat_cmp count_node nat_cmp_total one_heartbeat_more (λ x. refl) n c counts h e
    ∙ maps_same _ (λ (x : HeartbeatCount). cond (nat_eq x.node n) (one_heartbeat_more x) x) (λ x. ap (λ b. cond b (one_heartbeat_more x) x) (at_number n x.node)) counts
