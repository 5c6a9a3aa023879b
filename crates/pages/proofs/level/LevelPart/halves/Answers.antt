use Rattle.pages.specs.Inner.Slots.{slot_rows, slot_first}
use Rattle.pages.proofs.Sublists.{parted_take, parted_drop}
use Rattle.pages.proofs.level.LevelPart.halves.Goals as goal

pub level_of-requires : goal.level_of-requires
level_of-requires g c = rw (c.split_at.ensures.front, c.deref.ensures.value) (parted_take slot_first (slot_rows g.C.Part.rows) g.T.Key.Ord.cmp g.T.Row.key_of g.met.T.Key.Ord.total c.if-at_end.middle c.self.inside.slots.items c.self.invariant.parted)

pub level_of-requires-2 : goal.level_of-requires-2
level_of-requires-2 g c = rw (c.split_at.ensures.back, c.deref.ensures.value) (parted_drop slot_first (slot_rows g.C.Part.rows) g.T.Key.Ord.cmp g.T.Row.key_of g.met.T.Key.Ord.total c.if-at_end.middle c.self.inside.slots.items c.self.invariant.parted)
