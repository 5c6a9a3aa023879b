use Rattle.std.proofs.Common.{◌≡◌, drop}
use Rattle.std.specs.List.{list_all}
use Rattle.fsm_model.specs.Admission.{is_its_own}
use Rattle.fsm_state.proofs.cluster.Cluster.are_its_own.Given as goal

abbrev pub invariant-loop-report : goal.invariant-loop-report
invariant-loop-report l = list_all (is_its_own l.self l.node) l.reports ≡ list_all (is_its_own l.self l.node) (drop l.report-index l.reports)
