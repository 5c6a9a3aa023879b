use Rattle.eval_broker.specs.Inner.Trees.{levels}
use Rattle.eval_broker.proofs.tree.+cut.Given as goal

abbrev pub decreases-cut : goal.decreases-cut
decreases-cut g l = levels l.tree.now
