use Rattle.eval_broker.specs.Inner.Trees.{levels}
use Rattle.eval_broker.proofs.tree.+get.Given as goal

abbrev pub decreases-get : goal.decreases-get
decreases-get g l = levels l.tree.now
