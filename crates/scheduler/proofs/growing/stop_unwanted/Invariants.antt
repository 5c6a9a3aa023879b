use Rattle.std.proofs.Common.{◌≡◌, ◌-◌, ◌≤◌, ◌++◌, [], length, take, drop}
use Rattle.scheduler.specs.Inner.Growing.{AreLoads, first_unwanted}
use Rattle.scheduler.proofs.Names.{unwanted_ids}
use Rattle.scheduler.proofs.growing.stop_unwanted.Given as goal

abbrev pub invariant-loop-row : goal.invariant-loop-row
invariant-loop-row l = record {
  few : length l.plan.stops ≤ 64;
  stops : l.plan.stops ++ take (64 - length l.plan.stops) (unwanted_ids l.groups (drop l.row-index l.rows)) ≡ first_unwanted l.groups l.rows;
  places : l.plan.places ≡ [];
  loads : AreLoads l.state l.job l.plan;
}
