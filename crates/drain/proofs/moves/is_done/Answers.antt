use Rattle.std.proofs.Common.{not, ap, subst, ◌∙◌}
use Rattle.std.specs.Prelude.{nat_lt}
use Rattle.std.specs.List.{AllByRecursion}
use Rattle.rows.specs.declared.size.Size.{Size}
use Rattle.rows.specs.Fits.{AllocationFits}
use Rattle.fsm_state.proofs.Admitting.{used_where_live}
use Rattle.drain.proofs.moves.is_done.Goals as goal

pub returns : goal.returns
returns c =
    let fit = subst (AllByRecursion AllocationFits) c.alloc_table.ensures.rows c.ranges-2.ensures.fit in
    ap (λ n. not (nat_lt 0 n)) (c.cpu-in_use.ensures ∙ ap (λ (z : Size). z.cpu) c.used.ensures) ∙ ap not (used_where_live c.args.node c.args.state.now.allocs fit)
