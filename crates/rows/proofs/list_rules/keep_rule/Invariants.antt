use Rattle.std.proofs.Common.{◌≡◌, take, drop, []}
use Rattle.rows.specs.Rising.{keeps}
use Rattle.rows.proofs.list_rules.keep_rule.Given as goal

abbrev pub invariant-loop-place : goal.invariant-loop-place
invariant-loop-place g l = keeps g.T.Ruled.rule (take l.place l.items) (drop l.place l.items) ≡ keeps g.T.Ruled.rule [] l.items
