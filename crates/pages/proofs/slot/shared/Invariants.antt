use Rattle.std.proofs.Common.{take}
use Rattle.pages.specs.Inner.Parts.{AreAlike}
use Rattle.pages.specs.Inner.Slots.{slot_rows, slot_first}
use Rattle.pages.proofs.slot.shared.Given as goal

abbrev pub invariant-loop-slot : goal.invariant-loop-slot
invariant-loop-slot g l = AreAlike slot_first (slot_rows g.C.Part.rows) l.copies.items (take l.slot-index l.slots)
