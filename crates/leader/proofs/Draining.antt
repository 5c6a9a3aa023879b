-- The next moves off a node that the state drains are few and in rising order.
use Rattle.std.proofs.Common.{◌≡◌, ℕ, Bool, true, false, cond, T, List, Option, Some, None, Ok, Err, subst}
use Rattle.rows.specs.declared.node.Node.{Node}
use Rattle.rows.specs.declared.allocation.AllocId.{AllocId}
use Rattle.rows.specs.declared.refusal.Refusal.TheVariants as refusals
use Rattle.rows.specs.Keys.{alloc_cmp, alloc_id}
use Rattle.rows.specs.Rising.{is_rising}
use Rattle.fsm_model.specs.Words.{State, node_of, is_draining}
use Rattle.group_model.specs.Drains.{moves_of, next_moves, next_moves_of}
use Rattle.group_model.proofs.NextMoves.{AreFewRising, moves_rise}

pub next_moves_rise : (s : State) (node : ℕ) (ids : List AllocId) → T (is_rising alloc_cmp alloc_id s.allocs) → next_moves s node ≡ Ok ids → AreFewRising ids
next_moves_rise s node ids rising e = by (node_of node s) e where
  at : (n : Node) (b : Bool) → cond b (Ok (moves_of n.drain n.number s)) (Err refusals.NotDraining) ≡ Ok ids → AreFewRising ids
  at n true g =
      let same : moves_of n.drain n.number s ≡ ids = cc in
      subst (λ (xs : List AllocId). AreFewRising xs) same (moves_rise n.drain n.number s rising)
  at n false g = absurd cc

  by : (m : Option Node) → next_moves_of s m ≡ Ok ids → AreFewRising ids
  by None g = absurd cc
  by (Some n) g = at n (is_draining n.drain) g
