use Rattle.std.proofs.Common.{◌≡◌, ◌+◌, ◌*◌, ◌≤◌, ℕ, List, drop, map}
use Rattle.std.specs.Prelude.{sum_by}
use Rattle.rows.specs.Sizes.{Part, amount}
use Rattle.fsm_tables.specs.Claims.{on_node}
use Rattle.fsm_state.proofs.room.taken.Given as goal

abbrev pub invariant-loop-taker : goal.invariant-loop-taker
invariant-loop-taker g l =
    let claim = g.T.TakesRoom.claim in record {
      sums : (job : List ℕ) (p : Part) → amount p l.taken + sum_by (on_node l.node p) (map (claim job) (drop l.taker-index l.takers)) ≡ sum_by (on_node l.node p) (map (claim job) l.takers);
      small : (p : Part) → amount p l.taken ≤ l.taker-index * 1000000;
    }
