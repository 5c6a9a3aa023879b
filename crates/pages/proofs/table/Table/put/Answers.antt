use Rattle.std.proofs.Common.{subst, sym}
use Rattle.std.specs.List.{AllByRecursion}
use Rattle.pages.proofs.RowLaws.{all_put}
use Rattle.pages.proofs.table.Table.put.Goals as goal

pub invariant_of-self-2 : goal.invariant_of-self-2
invariant_of-self-2 g c = subst (AllByRecursion g.T.Ranged.Fits) (sym c.in_ok-put.ensures.ok)
    (all_put g.T.Key.Ord.cmp g.T.Row.key_of g.T.Ranged.Fits c.args.row c.self.inside.root c.ranges-2.ensures c.self.invariant)
