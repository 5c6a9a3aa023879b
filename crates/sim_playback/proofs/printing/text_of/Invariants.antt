use Rattle.std.proofs.Common.{◌≡◌, map, string_bytes, take}
use Rattle.sim_playback.specs.Lines.{lines_text}
use Rattle.sim_playback.proofs.printing.text_of.Given as goal

abbrev pub invariant-loop-line : goal.invariant-loop-line
invariant-loop-line l = string_bytes l.text ≡ lines_text (map string_bytes (take l.line-index l.lines))
