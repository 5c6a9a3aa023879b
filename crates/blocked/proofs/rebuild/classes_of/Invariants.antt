use Rattle.std.proofs.Common.{◌≡◌, ◌++◌, map, drop}
use Rattle.rows.specs.declared.job.Group.{Group}
use Rattle.blocked.proofs.rebuild.classes_of.Given as goal

abbrev pub invariant-loop-group : goal.invariant-loop-group
invariant-loop-group l = l.classes ++ map (λ (g : Group). g.class) (drop l.group-index l.group-items) ≡ map (λ (g : Group). g.class) l.group-items
