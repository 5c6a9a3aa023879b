use Rattle.std.proofs.Common.{◌≡◌, ◌++◌, map, take}
use Rattle.event_texts.specs.Transcripts.{lines_text, node_line}
use Rattle.event_texts.proofs.transcript.append_nodes.Given as goal

abbrev pub invariant-loop-node : goal.invariant-loop-node
invariant-loop-node l = l.out.items ≡ l.fn.out.items ++ lines_text (map node_line (take l.node-index l.nodes))
