use Rattle.std.proofs.Common.{ap, ◌∙◌}
use Rattle.pages.specs.Rows.{row_of}
use Rattle.pages.specs.Inner.Slots.{slot_rows, slot_first}
use Rattle.pages.proofs.Here.{found_here}
use Rattle.pages.proofs.level.LevelPart.get.Goals as goal

pub returns : goal.returns
returns g c =
    let R = g.T.Key.Ord.cmp in
    let key = g.T.Row.key_of in
    let k = c.args.key.now in
    let leads = rw c.deref.ensures.value at c.seek-at.ensures in
    c.get.ensures ∙ ap (λ z. row_of R key k (g.C.Part.rows z)) c.deref-2.ensures
    ∙ found_here R key g.met.T.Key.Ord.total slot_first (slot_rows g.C.Part.rows) k c.self.inside.slots.items c.seek-at.result c.index.result.now c.index.ensures leads c.self.invariant.parted
    ∙ ap (row_of R key k) c.self.view_is
