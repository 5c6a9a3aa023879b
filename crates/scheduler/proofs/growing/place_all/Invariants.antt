use Rattle.std.proofs.Common.{drop}
use Rattle.group_model.specs.Scheduling.{PlanPart, GoesOn}
use Rattle.scheduler.specs.Inner.Growing.{part_of, AreLoads}
use Rattle.scheduler.proofs.growing.place_all.Given as goal

-- what the rest of the names makes of the plan, all of them make of the plan at the start
abbrev pub invariant-loop-name : goal.invariant-loop-name
invariant-loop-name l = record {
  loads : AreLoads l.state l.job l.plan;
  goes_on : (whole : PlanPart) → GoesOn l.state l.job (part_of l.plan) (drop l.name-index l.names) whole → GoesOn l.state l.job (part_of l.fn.plan) l.names whole;
}
