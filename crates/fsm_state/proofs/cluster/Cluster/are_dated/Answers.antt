use Rattle.std.proofs.Common.{◌≡◌, ◌+◌, ◌-◌, List, length, Some, None, sym, subst, ◌∙◌}
use Rattle.std.specs.Prelude.{nat_lt}
use Rattle.std.specs.List.{slice_get}
use Rattle.rows.specs.declared.allocation.Allocation.{Allocation}
use Rattle.fsm_state.proofs.Alone.{dated_by_last, dated_by_none}
use Rattle.fsm_state.proofs.cluster.Cluster.are_dated.Goals as goal

pub returns-in-Some : goal.returns-in-Some
returns-in-Some c =
    let s = c.args.self.now in
    let last : slice_get s.allocs (length s.allocs - 1) ≡ Some c.in-Some.row.now = subst (λ (rows : List Allocation). slice_get rows (length rows - 1) ≡ Some c.in-Some.row.now) c.alloc_table.ensures.rows (sym c.in-Some.ensures) in
    (λ i. nat_lt (c.get.ensures.value i) ((c.get-in-Some.ensures.value ∙ c.applied.ensures) i + 1))
    ∙ sym (dated_by_last (s.count + 1) s.allocs c.in-Some.row.now c.ranges-2.ensures.tables.allocs.rising last)

pub returns-in-None : goal.returns-in-None
returns-in-None c =
    let s = c.args.self.now in
    let none : slice_get s.allocs (length s.allocs - 1) ≡ None = subst (λ (rows : List Allocation). slice_get rows (length rows - 1) ≡ None) c.alloc_table.ensures.rows (sym c.in-None.ensures) in
    sym (dated_by_none (s.count + 1) s.allocs none)
