use Rattle.std.proofs.Common.{◌++◌, T, ap, arith, length, subst, sym, ◌∙◌}
use Rattle.std.specs.Vec.Iter.{into_iter_items}
use Rattle.pages.specs.Rows.{is_rising, put}
use Rattle.pages.proofs.PartLaws.{put_last}
use Rattle.pages.proofs.Walks.{one_more, all_taken}
use Rattle.pages.proofs.table.Table.of_rising.Goals as goal

pub loop-row-preserved : goal.loop-row-preserved
loop-row-preserved g c =
    let R = g.T.Key.Ord.cmp in
    let key = g.T.Row.key_of in
    let at = c.loop-row in
    let row = c.in-Some.row in
    let steps = c.in-Some.ensures.steps in
    let all = ap (λ zs. at.yielded ++ zs) (sym steps.0) ∙ at.invariant.rest in
    record {
      taken = c.in_ok-put.ensures.ok ∙ ap (put R key row) at.invariant.taken ∙ put_last R key g.met.T.Key.Ord.total row at.yielded (into_iter_items c.next.new.self) (subst (λ zs. T (is_rising R key zs)) (sym all) c.requires);
      rest = one_more _ _ _ _ row at.invariant.rest steps.0;
      counted = (let was = at.invariant.counted in
          let gone = steps.1 in
          let short = ap length steps.0 in
          omega arith);
    }

pub returns : goal.returns
returns g c =
    let at = c.loop-row in
    at.invariant.taken ∙ all_taken _ _ _ _ at.invariant.rest at.invariant.counted c.in-None.ensures.steps.0
