use Rattle.std.proofs.Common.{refl, rules}
use Rattle.pages.specs.Inner.Slots.{slot_rows, slot_first}
use Rattle.pages.proofs.Here.{then_start, else_start, parted_here, rows_here, made_here, same_here, rows_same_here}
use Rattle.pages.proofs.level.put_at.Goals as goal

pub returns-in_err-made-clause-parted : goal.returns-in_err-made-clause-parted
returns-in_err-made-clause-parted g c = same_here g.T.Key.Ord.cmp g.T.Row.key_of g.met.T.Key.Ord.total slot_first (slot_rows g.C.Part.rows) c.args.slots.now.items c.args.at c.index_mut-slot.result.now _ c.index_mut-slot.ensures.value refl c.in_err-made.ensures.err c.requires.parted

pub returns-in_err-made-clause-err : goal.returns-in_err-made-clause-err
returns-in_err-made-clause-err g c =
    let e = rows_same_here g.T.Key.Ord.cmp g.T.Row.key_of g.met.T.Key.Ord.total slot_first (slot_rows g.C.Part.rows) c.args.slots.now.items c.args.at c.index_mut-slot.result.now record { first = c.index_mut-slot.result.now.first; part = c.put_shared.new.part } c.index_mut-slot.ensures.value refl c.in_err-made.ensures.err in
    search (rules, e)

pub returns-then-is_lt-clause-parted : goal.returns-then-is_lt-clause-parted
returns-then-is_lt-clause-parted g c =
    let R = g.T.Key.Ord.cmp in
    let d = c.index_mut-slot.result.now in
    parted_here R g.T.Row.key_of g.met.T.Key.Ord.total slot_first (slot_rows g.C.Part.rows) c.args.row c.args.slots.now.items c.args.at d _ c.index_mut-slot.ensures.value c.requires.leads c.requires.parted
    (then_start R g.T.Row.key_of g.met.T.Key.Ord.total c.args.row c.key.result.now d.first c.cmp.result c.is_lt.result c.key.ensures c.cmp.ensures c.is_lt.ensures c.if-is_lt.true) c.in_ok-made.ensures.ok

pub returns-then-is_lt-clause-ok : goal.returns-then-is_lt-clause-ok
returns-then-is_lt-clause-ok g c = rows_here g.T.Key.Ord.cmp g.T.Row.key_of g.met.T.Key.Ord.total slot_first (slot_rows g.C.Part.rows) c.args.row c.args.slots.now.items c.args.at c.index_mut-slot.result.now _ c.index_mut-slot.ensures.value c.requires.leads c.requires.parted c.in_ok-made.ensures.ok

pub returns-then-is_lt-clause-made : goal.returns-then-is_lt-clause-made
returns-then-is_lt-clause-made g c = made_here g.T.Key.Ord.cmp g.T.Row.key_of g.met.T.Key.Ord.total slot_first (slot_rows g.C.Part.rows) c.args.row c.args.slots.now.items c.args.at c.index_mut-slot.result.now _ c.index_mut-slot.ensures.value c.requires.leads c.requires.parted c.in_ok-made.ensures.made

pub returns-else-is_lt-clause-parted : goal.returns-else-is_lt-clause-parted
returns-else-is_lt-clause-parted g c =
    let R = g.T.Key.Ord.cmp in
    let d = c.index_mut-slot.result.now in
    parted_here R g.T.Row.key_of g.met.T.Key.Ord.total slot_first (slot_rows g.C.Part.rows) c.args.row c.args.slots.now.items c.args.at d _ c.index_mut-slot.ensures.value c.requires.leads c.requires.parted
    (else_start R g.T.Row.key_of g.met.T.Key.Ord.total c.args.row c.key.result.now d.first c.cmp.result c.is_lt.result c.key.ensures c.cmp.ensures c.is_lt.ensures c.if-is_lt.false) c.in_ok-made.ensures.ok

pub returns-else-is_lt-clause-ok : goal.returns-else-is_lt-clause-ok
returns-else-is_lt-clause-ok g c = rows_here g.T.Key.Ord.cmp g.T.Row.key_of g.met.T.Key.Ord.total slot_first (slot_rows g.C.Part.rows) c.args.row c.args.slots.now.items c.args.at c.index_mut-slot.result.now _ c.index_mut-slot.ensures.value c.requires.leads c.requires.parted c.in_ok-made.ensures.ok

pub returns-else-is_lt-clause-made : goal.returns-else-is_lt-clause-made
returns-else-is_lt-clause-made g c = made_here g.T.Key.Ord.cmp g.T.Row.key_of g.met.T.Key.Ord.total slot_first (slot_rows g.C.Part.rows) c.args.row c.args.slots.now.items c.args.at c.index_mut-slot.result.now _ c.index_mut-slot.ensures.value c.requires.leads c.requires.parted c.in_ok-made.ensures.made
