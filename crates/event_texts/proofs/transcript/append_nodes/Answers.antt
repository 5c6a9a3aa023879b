use Rattle.std.proofs.Common.{◌≡◌, ◌+◌, ◌<◌, ◌++◌, ◌∷◌, [], length, map, rules, take}
use Rattle.event_texts.specs.Transcripts.{node_line}
use Rattle.event_texts.proofs.Records.{map_more, one_more_written}
use Rattle.event_texts.proofs.transcript.append_nodes.Goals as goal

pub loop-node-preserved : goal.loop-node-preserved
loop-node-preserved c =
    let nodes = c.args.nodes.now in
    let i = c.loop-node.node-index in
    let node = c.node-item.result in
    let lt : i < length nodes = search rules in
    let before = map node_line (take i nodes) in
    let lines : map node_line (take (i + 1) nodes) ≡ before ++ node_line node ∷ [] = map_more node_line nodes i node lt c.node-item.is in
    let written : c.append_node.new.out.items ≡ c.loop-node.out.items ++ (node_line node ++ 10 ∷ []) = search rules in
    rw lines
    (one_more_written c.args.out.now.items c.loop-node.out.items c.append_node.new.out.items (node_line node) before c.loop-node.invariant written)
