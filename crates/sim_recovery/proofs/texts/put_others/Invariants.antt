use Rattle.std.proofs.Common.{◌≡◌, ◌++◌, map, string_bytes, take}
use Rattle.std.specs.List.{flat_map}
use Rattle.sim_recovery.specs.Tables.{next_form}
use Rattle.sim_recovery.proofs.texts.put_others.Given as goal

-- the lines so far stand behind what stood
abbrev pub invariant-loop-line : goal.invariant-loop-line
invariant-loop-line l = string_bytes l.text ≡ string_bytes l.fn.text ++ flat_map next_form (map string_bytes (take l.line-index l.lines))
