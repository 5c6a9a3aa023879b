use Rattle.std.proofs.Common.{◌≡◌, ◌≤◌, List, length, map, string_bytes, take}
use Rattle.sim_play.specs.Played.{LinesPlayed, Refused}
use Rattle.sim_play.specs.PlaySteps.{StepRefused, StepTaken}
use Rattle.sim_play.proofs.lines.play_lines.Given as goal

-- what became of the lines so far
abbrev pub invariant-loop-line : goal.invariant-loop-line
invariant-loop-line l = record {
  few : l.refused ≤ l.line-index;
  played : (refused : List Refused) × (length refused ≡ l.refused)
      × LinesPlayed StepTaken StepRefused (map string_bytes (take l.line-index l.lines)) l.fn.play refused l.play;
}
