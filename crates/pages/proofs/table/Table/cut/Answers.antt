use Rattle.std.proofs.Common.{◌∙◌, subst, sym}
use Rattle.std.specs.List.{AllByRecursion}
use Rattle.pages.proofs.Without.{all_without, without_none, none_at}
use Rattle.pages.proofs.table.Table.cut.Goals as goal

pub invariant_of-self : goal.invariant_of-self
invariant_of-self g c = subst (AllByRecursion g.T.Ranged.Fits) (sym c.in_ok-cut.ensures.ok)
    (all_without g.T.Key.Ord.cmp g.T.Row.key_of g.met.T.Key.Ord.total g.T.Ranged.Fits c.args.key.now c.self.inside.root c.self.invariant)

pub returns-else-is_some-clause-ok : goal.returns-else-is_some-clause-ok
returns-else-is_some-clause-ok g c = sym (without_none g.T.Key.Ord.cmp g.T.Row.key_of g.met.T.Key.Ord.total c.args.key.now c.args.self.now
    (none_at (λ row. row.now) c.get.result _ (sym c.is_some.ensures ∙ c.if-is_some.false) c.get.ensures))
