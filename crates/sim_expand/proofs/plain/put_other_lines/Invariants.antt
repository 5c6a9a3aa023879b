use Rattle.std.proofs.Common.{◌≡◌, ◌++◌, map, string_bytes, take}
use Rattle.sim_expand.specs.Plains.{line_form, others_form}
use Rattle.sim_expand.proofs.plain.put_other_lines.Given as goal

-- the lines so far stand behind what stood
abbrev pub invariant-loop-line : goal.invariant-loop-line
invariant-loop-line l = string_bytes l.text ≡ string_bytes l.fn.text ++ others_form (map line_form (map string_bytes (take l.line-index l.lines)))
