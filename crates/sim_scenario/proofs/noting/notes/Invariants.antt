use Rattle.std.proofs.Common.{◌≡◌, map, string_bytes, take}
use Rattle.sim_scenario.specs.EachLine.{OfEachLine}
use Rattle.sim_scenario.specs.Notes.{AreLineNotes}
use Rattle.sim_scenario.proofs.noting.notes.Given as goal

-- the notes of the lines so far
abbrev pub invariant-loop-line : goal.invariant-loop-line
invariant-loop-line l = record {
  number : l.number ≡ l.line-index;
  notes : OfEachLine (AreLineNotes l.scenario) 1 (map string_bytes (take l.line-index l.scenario.steps.items)) l.found.items;
}
