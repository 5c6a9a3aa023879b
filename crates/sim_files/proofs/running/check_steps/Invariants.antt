use Rattle.std.proofs.Common.{map, string_bytes, take}
use Rattle.std.specs.List.{All}
use Rattle.sim_scenario.specs.Complaints.{IsStepLine}
use Rattle.sim_files.proofs.running.check_steps.Given as goal

-- the lines so far are those of steps
abbrev pub invariant-loop-line : goal.invariant-loop-line
invariant-loop-line l = All IsStepLine (map string_bytes (take l.line-index l.scenario.steps.items))
