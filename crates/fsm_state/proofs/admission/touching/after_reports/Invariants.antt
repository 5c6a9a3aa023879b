use Rattle.std.proofs.Common.{◌≡◌, drop}
use Rattle.fsm_model.specs.Effect.{told_all}
use Rattle.fsm_state.proofs.admission.touching.after_reports.Given as goal

abbrev pub invariant-loop-report : goal.invariant-loop-report
invariant-loop-report l = told_all l.node (drop l.report-index l.reports) l.after ≡ told_all l.node l.reports l.initial.after
