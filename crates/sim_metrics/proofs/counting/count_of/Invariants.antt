use Rattle.std.proofs.Common.{◌≡◌, take}
use Rattle.std.specs.List.{count_by}
use Rattle.sim_metrics.specs.Verdicts.{is_verdict}
use Rattle.sim_metrics.proofs.counting.count_of.Given as goal

abbrev pub invariant-loop-verdict : goal.invariant-loop-verdict
invariant-loop-verdict l = l.count ≡ count_by (is_verdict l.kind) (take l.verdict-index l.verdicts)
