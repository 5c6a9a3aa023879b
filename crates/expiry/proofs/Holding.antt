-- The nodes that are not down are held after every list of calls.
use Rattle.std.proofs.Common.{◌≡◌, ℕ, Bool, cond, T, List, [], ◌∷◌, map, filter, Option, true, false, refl, sym, ap, ◌∙◌}
use Rattle.std.specs.Prelude.{nat_eq}
use Rattle.std.specs.Ordering.{nat_cmp}
use Rattle.std.specs.Cmp.{nat_cmp_total}
use Rattle.rows.specs.declared.node.Node.{Node}
use Rattle.rows.specs.Keys.{node_number}
use Rattle.rows.specs.Rising.{is_rising}
use Rattle.fsm_tables.specs.Rows.{put}
use Rattle.fsm_tables.proofs.RowLaws.{rising_put}
use Rattle.group_model.specs.Expiry.{HeartbeatCount, is_held, count_node, counted_node, heartbeat_count_of, heartbeat_counts_over, one_heartbeat_more, with_heartbeat, HoldsHeld}
use Rattle.group_model.proofs.Following.{counts_follow}
use Rattle.expiry.specs.Calls.{Call, Rebuild, Changed, Beat, HoldsAfter}

-- what is made of nodes is of these nodes
same_nodes : (find : ℕ → Option HeartbeatCount) (nodes : List Node) → map count_node (map (λ (n : Node). counted_node n (find n.number)) nodes) ≡ map node_number nodes
same_nodes find [] = refl
same_nodes find (n ∷ nodes) = ap (λ ns. n.number ∷ ns) (same_nodes find nodes)

pub over_held : (nodes : List Node) (old : List HeartbeatCount) → HoldsHeld nodes (heartbeat_counts_over nodes old)
over_held nodes old = same_nodes (λ n. heartbeat_count_of n old) (filter (λ (n : Node). is_held n.status) nodes)

-- a heartbeat is of no other nodes
pub beat_stays : (n : ℕ) (counts : List HeartbeatCount) → map count_node (with_heartbeat n counts) ≡ map count_node counts
beat_stays n [] = refl
beat_stays n (c ∷ counts) = λ i. one (nat_eq c.node n) i ∷ beat_stays n counts i where
  one : (b : Bool) → count_node (cond b (one_heartbeat_more c) c) ≡ c.node
  one true = refl
  one false = refl

held_after : (calls : List Call) (nodes : List Node) (counts : List HeartbeatCount) → T (is_rising nat_cmp node_number nodes) → HoldsHeld nodes counts → HoldsAfter nodes counts calls
held_after [] nodes counts rising holds = holds
held_after (Rebuild s its ∷ calls) nodes counts rising holds = held_after calls s.nodes (heartbeat_counts_over s.nodes []) its (over_held s.nodes [])
held_after (Changed row ∷ calls) nodes counts rising holds =
    let after = put nat_cmp node_number row nodes in
    held_after calls after _ (rising_put nat_cmp node_number nat_cmp_total row nodes rising)
    (sym (ap (map count_node) (counts_follow nodes row counts rising holds)) ∙ over_held after counts)
held_after (Beat n ∷ calls) nodes counts rising holds = held_after calls nodes (with_heartbeat n counts) rising (beat_stays n counts ∙ holds)

pub always_held : (calls : List Call) → HoldsAfter [] [] calls
always_held calls = held_after calls [] [] tt refl
