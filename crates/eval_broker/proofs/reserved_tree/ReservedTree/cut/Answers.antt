use Rattle.std.proofs.Common.{T, sym, subst, ◌∙◌, arith}
use Rattle.rows.specs.Rising.{is_rising}
use Rattle.fsm_tables.proofs.ReservedTables.{rising_without}
use Rattle.eval_broker.proofs.Heights.{at_most_91}
use Rattle.eval_broker.specs.Inner.Trees.{tree_rows}
use Rattle.eval_broker.proofs.reserved_tree.ReservedTree.cut.Goals as goal

pub invariant_of-self : goal.invariant_of-self
invariant_of-self g c =
    let R = g.T.Key.Ord.cmp in
    let key = g.T.Row.key_of in
    record {
      rising = subst (λ zs. T (is_rising R key zs)) (sym c.cut-is_lower.ensures.rows) (rising_without R key g.met.T.Key.Ord.total c.args.key.now (tree_rows c.self.inside.tree) c.self.invariant.rising);
      capacity = c.self.invariant.capacity ∙ sym c.cut-is_lower.ensures.kept;
      balanced = c.cut-is_lower.ensures.balanced;
      levels = at_most_91 c.cut-is_lower.new.tree c.cut-is_lower.ensures.balanced (omega (arith, c.self.invariant.capacity, c.cut-is_lower.ensures.kept));
    }

pub cut-is_lower-requires-clause-low : goal.cut-is_lower-requires-clause-low
cut-is_lower-requires-clause-low g c = omega (arith, c.self.invariant.levels)
