use Rattle.std.proofs.Common.{◌≤◌, length, subst, sym, List}
use Rattle.rows.specs.declared.allocation.Allocation.{Allocation}
use Rattle.fsm_tables.proofs.RowLaws.{few_put}
use Rattle.rows.specs.Keys.{alloc_cmp, alloc_id}
use Rattle.rows.proofs.KeyLaws.{alloc_cmp_total}
use Rattle.fsm_tables.specs.Inner.Sums.{AreSummed, IsShare}
use Rattle.fsm_tables.specs.Inner.Keys.{AreRowIndexes}
use Rattle.fsm_tables.proofs.Sums.{summed_put, room}
use Rattle.fsm_tables.proofs.allocations.Allocations.store.Goals as goal

pub put_on-requires-clause-fits : goal.put_on-requires-clause-fits
put_on-requires-clause-fits c =
    let to = c.held_by-to.ensures in
    room c.self.inside.rows c.self.inside.sums c.held_by-to.result c.self.invariant.summed c.ranges-2.ensures.fit c.self.invariant.few to.place to.small

pub invariant_of-self-2 : goal.invariant_of-self-2
invariant_of-self-2 c =
    let rows = c.self.inside.rows in
    let rising = c.ranges-2.ensures.rising in
    let from = subst (λ o. IsShare o c.held_by-from.result) c.get.ensures c.held_by-from.ensures in
    let place = rw (← c.self.view_is) at c.requires in
    subst (λ (new : List Allocation). record { summed : AreSummed new c.take_off.new.sums; listed : AreRowIndexes new c.put_indexed.new.indexes; few : length new ≤ 65536 }) (sym c.in_ok-put_indexed.ensures.ok) (record {
      summed = summed_put c.args.row rows c.self.inside.sums c.put_on.new.sums c.take_off.new.sums c.held_by-to.result c.held_by-from.result c.self.invariant.summed rising c.held_by-to.ensures from c.put_on.ensures c.take_off.ensures;
      listed = rw c.in_ok-put_indexed.ensures.ok at c.put_indexed.ensures.listed;
      few = few_put alloc_cmp alloc_id alloc_cmp_total 65536 c.args.row rows rising place c.self.invariant.few;
    })
