use Rattle.std.proofs.Common.{◌≡◌, ◌||◌, List, ℕ, drop}
use Rattle.std.specs.BTreeSet.{contains}
use Rattle.rows.specs.Keys.{name_cmp}
use Rattle.fsm_model.specs.Effect.{told_all}
use Rattle.fsm_state.specs.Inner.Steps.{has_name, ended_now}
use Rattle.fsm_state.proofs.cluster.Cluster.jobs_ended.Given as goal

abbrev pub invariant-loop-report : goal.invariant-loop-report
invariant-loop-report l = (name : List ℕ) → (contains name_cmp l.names name || has_name (ended_now (told_all l.node l.reports) (drop l.report-index l.reports) l.self) name) ≡ has_name (ended_now (told_all l.node l.reports) l.reports l.self) name
