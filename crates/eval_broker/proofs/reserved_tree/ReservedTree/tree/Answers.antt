use Rattle.std.proofs.Common.{◌≤◌, length, sym, ap, subst}
use Rattle.eval_broker.proofs.Heights.{few_levels}
use Rattle.eval_broker.proofs.reserved_tree.ReservedTree.tree.Goals as goal

pub returns-clause-few : goal.returns-clause-few
returns-clause-few g c few =
    let size = ap (λ (a : _). length a.rows) (sym c.self.view_is) in
    few_levels c.self.inside.tree c.self.invariant.balanced (subst (λ n. n ≤ 65536) size few)
