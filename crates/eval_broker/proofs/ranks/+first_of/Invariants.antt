use Rattle.eval_broker.specs.Inner.Trees.{levels}
use Rattle.eval_broker.proofs.ranks.+first_of.Given as goal

abbrev pub decreases-first_of : goal.decreases-first_of
decreases-first_of l = levels l.ranks.now
