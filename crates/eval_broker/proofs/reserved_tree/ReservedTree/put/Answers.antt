use Rattle.std.proofs.Common.{T, sym, subst, ◌∙◌, arith}
use Rattle.rows.specs.Rising.{is_rising}
use Rattle.fsm_tables.proofs.RowLaws.{rising_put}
use Rattle.eval_broker.proofs.Heights.{at_most_91}
use Rattle.eval_broker.specs.Inner.Trees.{tree_rows}
use Rattle.eval_broker.proofs.reserved_tree.ReservedTree.put.Goals as goal

pub invariant_of-self : goal.invariant_of-self
invariant_of-self g c =
    let R = g.T.Key.Ord.cmp in
    let key = g.T.Row.key_of in
    record {
      rising = subst (λ zs. T (is_rising R key zs)) (sym c.put-is_higher.ensures.rows) (rising_put R key g.met.T.Key.Ord.total c.args.row (tree_rows c.self.inside.tree) c.self.invariant.rising);
      capacity = c.self.invariant.capacity ∙ sym c.put-is_higher.ensures.kept;
      balanced = c.put-is_higher.ensures.balanced;
      levels = at_most_91 c.put-is_higher.new.tree c.put-is_higher.ensures.balanced (omega (arith, c.self.invariant.capacity, c.put-is_higher.ensures.kept));
    }

pub put-is_higher-requires-clause-low : goal.put-is_higher-requires-clause-low
put-is_higher-requires-clause-low g c = omega (arith, c.self.invariant.levels)
