use Rattle.std.proofs.Common.{◌≡◌, map, take}
use Rattle.world.specs.GroupView.{node_in}
use Rattle.transcript.proofs.writing.nodes_of.Given as goal

abbrev pub invariant-loop-client : goal.invariant-loop-client
invariant-loop-client l = l.nodes.items ≡ map node_in (take l.client-index l.clients)
