use Rattle.std.proofs.Common.{◌≡◌}
use Rattle.leader.proofs.MadeRows.{made_below}
use Rattle.leader.proofs.made.made.Given as goal

abbrev pub invariant-loop-slot : goal.invariant-loop-slot
invariant-loop-slot l = l.rows ≡ made_below l.state.count l.state.evals l.slot
