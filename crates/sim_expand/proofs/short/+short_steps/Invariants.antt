use Rattle.std.proofs.Common.{IsTrue, List, map, take}
use Rattle.serde_json.specs.View.{view}
use Rattle.sim_expand.specs.Inner.Totals.{IsTotal}
use Rattle.sim_expand.specs.ShortSteps.{Short}
use Rattle.sim_expand.specs.Shorts.{AreSteps}
use Rattle.sim_expand.proofs.short.+short_steps.Given as goal

abbrev pub decreases-short_steps : goal.decreases-short_steps
decreases-short_steps l = l.depth

-- the values so far come to the steps so far
abbrev pub invariant-loop-value : goal.invariant-loop-value
invariant-loop-value l = (steps : List Short) × AreSteps l.depth (map view (take l.value-index l.list)) steps × IsTotal (IsTrue l.kept) steps l.total
