use Rattle.pages.specs.Inner.Slots.{slot_rows, slot_first}
use Rattle.pages.proofs.Here.{leads_at}
use Rattle.pages.proofs.level.seek.Goals as goal

pub returns-in-Ok : goal.returns-in-Ok
returns-in-Ok g c = leads_at g.T.Key.Ord.cmp g.T.Row.key_of g.met.T.Key.Ord.total slot_first (slot_rows g.C.Part.rows) c.args.key.now c.args.slots.now c.in-Ok.at c.requires.parted c.in-Ok.ensures
