use Rattle.eval_broker.specs.Inner.Trees.{levels}
use Rattle.eval_broker.proofs.tree.+put.Given as goal

abbrev pub decreases-put : goal.decreases-put
decreases-put g l = levels l.tree.now
