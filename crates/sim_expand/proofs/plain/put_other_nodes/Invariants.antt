use Rattle.std.proofs.Common.{◌≡◌, ◌++◌, map, string_bytes, take}
use Rattle.sim_expand.specs.Plains.{node_form, others_form}
use Rattle.sim_expand.proofs.plain.put_other_nodes.Given as goal

-- the nodes so far stand behind what stood
abbrev pub invariant-loop-node : goal.invariant-loop-node
invariant-loop-node l = string_bytes l.text ≡ string_bytes l.fn.text ++ others_form (map node_form (take l.node-index l.nodes))
