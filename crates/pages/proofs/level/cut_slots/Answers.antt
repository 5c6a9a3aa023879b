use Rattle.pages.specs.Inner.Slots.{slot_rows, slot_first}
use Rattle.pages.proofs.Here.{some_parts}
use Rattle.pages.proofs.level.cut_slots.Goals as goal

pub seek-at-requires : goal.seek-at-requires
seek-at-requires g c =
    let R = g.T.Key.Ord.cmp in
    let key = g.T.Row.key_of in
    let rows = slot_rows g.C.Part.rows in
    rw c.deref.ensures.value record {
      parted = c.requires.parted;
      some = some_parts R key g.met.T.Key.Ord.total slot_first rows c.args.key.now c.args.slots.now.items c.requires.there;
    }
