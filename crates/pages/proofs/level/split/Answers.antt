use Rattle.std.proofs.Common.{refl, ap, sym, ◌∙◌}
use Rattle.pages.specs.Inner.Slots.{slot_rows, slot_first}
use Rattle.pages.proofs.Here.{split_code, rows_split_code}
use Rattle.pages.proofs.level.split.Goals as goal

pub returns-clause-parted : goal.returns-clause-parted
returns-clause-parted g c =
    let rows = g.C.Part.rows in
    split_code g.T.Key.Ord.cmp g.T.Row.key_of g.met.T.Key.Ord.total slot_first (slot_rows rows)
    record { first = c.index-2.result.now.first; part = c.in_ok-lower-2.lower } record { first = c.key.result.now; part = c.in_ok-part.part }
    c.args.slots.now.items c.insert.new.self.items c.args.at c.index.result.now c.index-2.result.now (rows c.in_ok-lower.lower) (rows c.in_ok-lower.upper) c.in-Some.row.now c.run_from.result.now c.cmp.result c.is_lt.result
    c.requires.position c.index.ensures c.index-2.ensures refl c.cmp.ensures c.is_lt.ensures c.if-not-is_lt.false
    (ap rows c.in_ok-lower-2.ensures.ok) (ap rows c.in_ok-part.ensures.ok) (c.in_ok-lower.ensures ∙ ap rows c.deref.ensures) c.key.ensures c.run_from.ensures (sym c.in-Some.ensures.value) c.in_ok-insert.ensures.items c.requires.parted

pub returns-clause-rows : goal.returns-clause-rows
returns-clause-rows g c =
    let rows = g.C.Part.rows in
    rows_split_code g.T.Key.Ord.cmp g.T.Row.key_of g.met.T.Key.Ord.total slot_first (slot_rows rows)
    record { first = c.index-2.result.now.first; part = c.in_ok-lower-2.lower } record { first = c.key.result.now; part = c.in_ok-part.part }
    c.args.slots.now.items c.insert.new.self.items c.args.at c.index.result.now (rows c.in_ok-lower.lower) (rows c.in_ok-lower.upper)
    c.requires.position c.index.ensures (ap rows c.in_ok-lower-2.ensures.ok) (ap rows c.in_ok-part.ensures.ok) (c.in_ok-lower.ensures ∙ ap rows c.deref.ensures) c.in_ok-insert.ensures.items
