use Rattle.std.proofs.Common.{◌≡◌, ◌||◌, List, ℕ, drop}
use Rattle.std.specs.BTreeSet.{contains}
use Rattle.rows.specs.Keys.{name_cmp}
use Rattle.fsm_state.specs.Inner.Steps.{has_name, owners}
use Rattle.fsm_state.proofs.cluster.Cluster.jobs_on.Given as goal

abbrev pub invariant-loop-row : goal.invariant-loop-row
invariant-loop-row l = (name : List ℕ) → (contains name_cmp l.names name || has_name (owners (drop l.row-index l.row-items)) name) ≡ has_name (owners l.row-items) name
