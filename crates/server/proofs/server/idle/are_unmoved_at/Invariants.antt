use Rattle.std.proofs.Common.{◌≡◌, drop}
use Rattle.std.specs.List.{list_all}
use Rattle.server.specs.Inner.Idle.{is_unmoved_at}
use Rattle.server.proofs.server.idle.are_unmoved_at.Given as goal

abbrev pub invariant-loop-report : goal.invariant-loop-report
invariant-loop-report l = list_all (is_unmoved_at l.node l.reports l.state) (drop l.report-index l.reports) ≡ list_all (is_unmoved_at l.node l.reports l.state) l.reports
