use Rattle.std.proofs.Common.{ap, sym, ◌∙◌, length}
use Rattle.pages.specs.Inner.Slots.{slot_rows, slot_first}
use Rattle.pages.proofs.Sublists.{alike_rows, alike_parted}
use Rattle.pages.proofs.level.level_of.Goals as goal

pub invariant_of-result : goal.invariant_of-result
invariant_of-result g c = record {
  count = c.in_ok-count.ensures ∙ ap length (sym (alike_rows slot_first (slot_rows g.C.Part.rows) c.in_ok-slots.slots.items c.args.slots.now c.in_ok-slots.ensures));
  parted = alike_parted slot_first (slot_rows g.C.Part.rows) g.T.Key.Ord.cmp g.T.Row.key_of c.in_ok-slots.slots.items c.args.slots.now c.in_ok-slots.ensures c.requires;
}

pub returns : goal.returns
returns g c = alike_rows slot_first (slot_rows g.C.Part.rows) c.in_ok-slots.slots.items c.args.slots.now c.in_ok-slots.ensures
