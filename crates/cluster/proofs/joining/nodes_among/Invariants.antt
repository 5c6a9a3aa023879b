use Rattle.cluster.specs.Inner.Joined.{AreNodesOf}
use Rattle.cluster.proofs.joining.nodes_among.Given as goal

abbrev pub invariant-loop-place : goal.invariant-loop-place
invariant-loop-place l = AreNodesOf l.place l.actors l.nodes.items
