use Rattle.std.proofs.Common.{◌≡◌, ◌<◌, length, take, arith, ap, ◌∙◌}
use Rattle.pages.specs.Inner.Parts.{rows_of}
use Rattle.pages.specs.Inner.Slots.{slot_rows}
use Rattle.pages.proofs.Here.{one_part_more}
use Rattle.pages.proofs.level.count_before.Goals as goal

pub overflow_add-count : goal.overflow_add-count
overflow_add-count g c =
    let rows = g.C.Part.rows in
    let is : c.len-count.result ≡ length (slot_rows rows c.slot-item.result) = c.len-count.ensures ∙ ap (λ z. length (rows z)) c.deref.ensures in
    let was : c.loop-slot.count ≡ length (rows_of (slot_rows rows) (take c.loop-slot.slot-index (take c.args.at c.args.slots.now))) = c.loop-slot.invariant in
    let most = one_part_more (slot_rows rows) c.args.slots.now c.args.at c.loop-slot.slot-index c.slot-item.result c.loop-slot-test.true c.slot-item.is in
    let fits : length (rows_of (slot_rows rows) c.args.slots.now) < 18446744073709551616 = c.requires.fits in
    omega (arith, is, was, most, fits)
