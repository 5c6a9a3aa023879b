use Rattle.pages.specs.Inner.Parts.{rows_of}
use Rattle.pages.specs.Inner.Slots.{slot_rows}
use Rattle.pages.proofs.Here.{count_made, count_kept}
use Rattle.pages.proofs.level.LevelPart.put.Goals as goal

pub invariant_of-self-then-made : goal.invariant_of-self-then-made
invariant_of-self-then-made g c = record {
  count = count_made g.T.Key.Ord.cmp g.T.Row.key_of g.met.T.Key.Ord.total c.args.row (rows_of (slot_rows g.C.Part.rows) c.self.inside.slots.items) (rows_of (slot_rows g.C.Part.rows) c.put_slots.new.slots.items) c.self.inside.count c.in_ok-made.made c.self.invariant.parted.rising c.self.invariant.count c.in_ok-made.ensures.ok c.in_ok-made.ensures.made c.if-made.true;
  parted = c.in_ok-made.ensures.parted;
}

pub invariant_of-self-else-made : goal.invariant_of-self-else-made
invariant_of-self-else-made g c = record {
  count = count_kept g.T.Key.Ord.cmp g.T.Row.key_of g.met.T.Key.Ord.total c.args.row (rows_of (slot_rows g.C.Part.rows) c.self.inside.slots.items) (rows_of (slot_rows g.C.Part.rows) c.put_slots.new.slots.items) c.self.inside.count c.in_ok-made.made c.self.invariant.parted.rising c.self.invariant.count c.in_ok-made.ensures.ok c.in_ok-made.ensures.made c.if-made.false;
  parted = c.in_ok-made.ensures.parted;
}
