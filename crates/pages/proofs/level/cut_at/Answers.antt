use Rattle.std.proofs.Common.{refl, rules}
use Rattle.pages.specs.Inner.Slots.{slot_rows, slot_first}
use Rattle.pages.proofs.Here.{there_here, cut_here, rows_cut_here, same_here, rows_same_here}
use Rattle.pages.proofs.level.cut_at.Goals as goal

pub cut_shared-requires : goal.cut_shared-requires
cut_shared-requires g c = there_here g.T.Key.Ord.cmp g.T.Row.key_of g.met.T.Key.Ord.total slot_first (slot_rows g.C.Part.rows) c.args.key.now c.args.slots.now.items c.args.at c.index_mut-slot.result.now c.index_mut-slot.ensures.value c.requires.leads c.requires.parted c.requires.there

pub returns-in_err-cut_shared-clause-parted : goal.returns-in_err-cut_shared-clause-parted
returns-in_err-cut_shared-clause-parted g c = same_here g.T.Key.Ord.cmp g.T.Row.key_of g.met.T.Key.Ord.total slot_first (slot_rows g.C.Part.rows) c.args.slots.now.items c.args.at c.index_mut-slot.result.now _ c.index_mut-slot.ensures.value refl c.in_err-cut_shared.ensures.err c.requires.parted

pub returns-in_err-cut_shared-clause-err : goal.returns-in_err-cut_shared-clause-err
returns-in_err-cut_shared-clause-err g c =
    let e = rows_same_here g.T.Key.Ord.cmp g.T.Row.key_of g.met.T.Key.Ord.total slot_first (slot_rows g.C.Part.rows) c.args.slots.now.items c.args.at c.index_mut-slot.result.now record { first = c.index_mut-slot.result.now.first; part = c.cut_shared.new.part } c.index_mut-slot.ensures.value refl c.in_err-cut_shared.ensures.err in
    search (rules, e)

pub returns-clause-parted : goal.returns-clause-parted
returns-clause-parted g c = cut_here g.T.Key.Ord.cmp g.T.Row.key_of g.met.T.Key.Ord.total slot_first (slot_rows g.C.Part.rows) c.args.key.now c.args.slots.now.items c.args.at c.index_mut-slot.result.now _ c.index_mut-slot.ensures.value c.requires.leads c.requires.parted refl c.in_ok-cut_shared.ensures.ok

pub returns-clause-ok : goal.returns-clause-ok
returns-clause-ok g c = rows_cut_here g.T.Key.Ord.cmp g.T.Row.key_of g.met.T.Key.Ord.total slot_first (slot_rows g.C.Part.rows) c.args.key.now c.args.slots.now.items c.args.at c.index_mut-slot.result.now _ c.index_mut-slot.ensures.value c.requires.leads c.requires.parted c.in_ok-cut_shared.ensures.ok
