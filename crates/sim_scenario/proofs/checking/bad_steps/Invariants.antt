use Rattle.std.proofs.Common.{◌≡◌, map, string_bytes, take}
use Rattle.sim_scenario.specs.Complaints.{AreLineComplaints}
use Rattle.sim_scenario.specs.EachLine.{OfEachLine}
use Rattle.sim_scenario.proofs.checking.bad_steps.Given as goal

-- what is wrong with the lines so far
abbrev pub invariant-loop-line : goal.invariant-loop-line
invariant-loop-line l = record {
  number : l.number ≡ l.line-index;
  found : OfEachLine AreLineComplaints 1 (map string_bytes (take l.line-index l.scenario.steps.items)) l.found.items;
}
