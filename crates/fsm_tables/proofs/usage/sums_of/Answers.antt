use Rattle.std.proofs.Common.{◌≡◌, List, replicate, subst, sym, rules}
use Rattle.rows.specs.declared.allocation.Allocation.{Allocation}
use Rattle.rows.specs.Sizes.{no_size}
use Rattle.pages.specs.Runs.{rows_left}
use Rattle.fsm_tables.proofs.Sums.{AreSummedBut, summed_begin, room_left}
use Rattle.fsm_tables.proofs.usage.sums_of.Goals as goal

pub loop-row-init : goal.loop-row-init
loop-row-init c =
    let rows = c.args.rows.now in
    let all : rows_left c.into_iter-row-iterator.result ≡ rows = search rules in
    subst (λ (left : List Allocation). AreSummedBut left rows (replicate 65 no_size)) (sym all) (summed_begin rows)

pub put_on-requires-clause-fits : goal.put_on-requires-clause-fits
put_on-requires-clause-fits c =
    let share = c.held.ensures in
    room_left (rows_left c.loop-row.row-iterator) c.args.rows.now c.loop-row.sums c.held.result c.loop-row.invariant c.ranges-2.ensures.fit c.requires share.place share.small
