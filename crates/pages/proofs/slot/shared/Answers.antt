use Rattle.std.proofs.Common.{ap, ◌∙◌}
use Rattle.pages.specs.Inner.Slots.{slot_rows, slot_first}
use Rattle.pages.proofs.Sublists.{alike_more}
use Rattle.pages.proofs.slot.shared.Goals as goal

pub loop-slot-preserved : goal.loop-slot-preserved
loop-slot-preserved g c =
    let d = c.slot-item.result in
    alike_more slot_first (slot_rows g.C.Part.rows) c.loop-slot.copies.items c.push.new.self.items c.args.slots.now c.loop-slot.slot-index d record { first = d.first; part = c.in_ok-part.part }
    c.loop-slot-test.true c.loop-slot.invariant c.in_ok-push.ensures.items (ap slot_first c.slot-item.is) (ap g.C.Part.rows c.in_ok-part.ensures ∙ ap (slot_rows g.C.Part.rows) c.slot-item.is)
