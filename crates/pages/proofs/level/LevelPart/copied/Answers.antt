use Rattle.std.proofs.Common.{ap, sym, ◌∙◌, length}
use Rattle.pages.specs.Inner.Slots.{slot_rows, slot_first}
use Rattle.pages.proofs.Sublists.{alike_rows, alike_parted}
use Rattle.pages.proofs.level.LevelPart.copied.Goals as goal

pub invariant_of-result : goal.invariant_of-result
invariant_of-result g c =
    let alike = rw c.deref.ensures.value at c.in_ok-slots.ensures in
    record {
      count = c.self.invariant.count ∙ ap length (sym (alike_rows slot_first (slot_rows g.C.Part.rows) c.in_ok-slots.slots.items c.self.inside.slots.items alike));
      parted = alike_parted slot_first (slot_rows g.C.Part.rows) g.T.Key.Ord.cmp g.T.Row.key_of c.in_ok-slots.slots.items c.self.inside.slots.items alike c.self.invariant.parted;
    }

pub returns : goal.returns
returns g c =
    let alike = rw c.deref.ensures.value at c.in_ok-slots.ensures in
    alike_rows slot_first (slot_rows g.C.Part.rows) c.in_ok-slots.slots.items c.self.inside.slots.items alike ∙ c.self.view_is
