use Rattle.std.proofs.Common.{map, string_bytes, take}
use Rattle.sim_expand.specs.Inner.Taking.{TakesThese}
use Rattle.sim_expand.proofs.expanding.Taken.take_lines.Given as goal

-- the lines so far were taken
abbrev pub invariant-loop-line : goal.invariant-loop-line
invariant-loop-line l = TakesThese l.fn.self (map string_bytes (take l.line-index l.lines)) l.self
