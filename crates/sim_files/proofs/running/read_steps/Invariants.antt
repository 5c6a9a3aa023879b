use Rattle.std.proofs.Common.{map, string_bytes, take}
use Rattle.sim_files.specs.Inner.Steps.{AreSteps}
use Rattle.sim_files.proofs.running.read_steps.Given as goal

-- the steps of the lines so far
abbrev pub invariant-loop-line : goal.invariant-loop-line
invariant-loop-line l = AreSteps l.steps.items (map string_bytes (take l.line-index l.scenario.steps.items))
