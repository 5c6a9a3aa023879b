use Rattle.std.proofs.Common.{◌≡◌, ◌++◌, map, string_bytes, take}
use Rattle.sim_playback.specs.Lines.{lines_text}
use Rattle.sim_recovery.proofs.texts.put_lines.Given as goal

-- the lines so far stand behind what stood
abbrev pub invariant-loop-line : goal.invariant-loop-line
invariant-loop-line l = string_bytes l.text ≡ string_bytes l.fn.text ++ lines_text (map string_bytes (take l.line-index l.lines))
