use Rattle.cluster.specs.Inner.Joined.{NoneBefore}
use Rattle.cluster.proofs.joining.node_among.Given as goal

abbrev pub invariant-loop-named : goal.invariant-loop-named
invariant-loop-named l = NoneBefore l.actors l.client l.named-index
