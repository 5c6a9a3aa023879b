use Rattle.std.proofs.Common.{◌≡◌, ◌+◌, length, take}
use Rattle.pages.specs.Inner.Parts.{rows_of}
use Rattle.pages.specs.Inner.Slots.{slot_rows}
use Rattle.pages.proofs.level.LevelPart.run_from.Given as goal

abbrev pub invariant-loop-slot : goal.invariant-loop-slot
invariant-loop-slot g l = length (rows_of (slot_rows g.C.Part.rows) (take l.slot-index l.slot-items)) + l.left ≡ l.fn.position
