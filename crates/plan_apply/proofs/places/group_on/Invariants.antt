use Rattle.std.proofs.Common.{◌≡◌, drop}
use Rattle.std.specs.Prelude.{find}
use Rattle.group_model.specs.Acceptance.{is_group_of}
use Rattle.plan_apply.proofs.places.group_on.Given as goal

abbrev pub invariant-loop-group : goal.invariant-loop-group
invariant-loop-group l = find (is_group_of l.node l.place) l.groups ≡ find (is_group_of l.node l.place) (drop l.group-index l.groups)
