use Rattle.std.proofs.Common.{◌≡◌, ◌||◌, List, ℕ, drop}
use Rattle.std.specs.BTreeSet.{contains}
use Rattle.rows.specs.Keys.{name_cmp}
use Rattle.fsm_state.specs.Inner.Steps.{told_steps, ended_jobs, has_name}
use Rattle.fsm_state.proofs.cluster.Cluster.apply_reports.Given as goal

abbrev pub invariant-loop-report : goal.invariant-loop-report
invariant-loop-report l = record {
  state : told_steps l.node (drop l.report-index l.reports) l.self ≡ told_steps l.node l.reports l.initial.self;
  jobs : (name : List ℕ) → (contains name_cmp l.names name || has_name (ended_jobs l.node (drop l.report-index l.reports) l.self) name) ≡ has_name (ended_jobs l.node l.reports l.initial.self) name;
}
