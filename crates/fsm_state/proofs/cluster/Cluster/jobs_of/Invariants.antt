use Rattle.std.proofs.Common.{◌≡◌, ◌||◌, List, ℕ, drop}
use Rattle.std.specs.BTreeSet.{contains}
use Rattle.rows.specs.Keys.{name_cmp}
use Rattle.fsm_state.specs.Inner.Steps.{has_name, live_jobs}
use Rattle.fsm_state.proofs.cluster.Cluster.jobs_of.Given as goal

abbrev pub invariant-loop-id : goal.invariant-loop-id
invariant-loop-id l = (name : List ℕ) → (contains name_cmp l.names name || has_name (live_jobs (drop l.id-index l.ids) l.self) name) ≡ has_name (live_jobs l.ids l.self) name
