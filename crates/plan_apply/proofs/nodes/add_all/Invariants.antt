use Rattle.std.proofs.Common.{◌≡◌, ◌++◌, drop}
use Rattle.plan_apply.proofs.nodes.add_all.Given as goal

abbrev pub invariant-loop-place : goal.invariant-loop-place
invariant-loop-place l = l.to ++ drop l.place-index l.more ≡ l.initial.to ++ l.more
