use Rattle.std.proofs.Common.{◌≡◌, ◌++◌, List, length, map, suc}
use Rattle.std.specs.List.{AllByRecursion}
use Rattle.rows.specs.declared.node.NodeSpec.{NodeSpec}
use Rattle.group_model.specs.Worlds.{Event}
use Rattle.event_texts.specs.EventLines.{HasLine}
use Rattle.event_texts.specs.Transcripts.{AreNumberedFrom, lines_text, node_line}
use Rattle.event_texts.proofs.Lines.{rest_of}
use Rattle.event_texts.proofs.reading.read_nodes.Given as goal

abbrev pub invariant-loop-node : goal.invariant-loop-node
invariant-loop-node l = record {
  numbered : AreNumberedFrom 1 l.nodes.items;
  front : l.text ≡ lines_text (map node_line l.nodes.items) ++ l.rest;
  toward : (ns : List NodeSpec) (events : List Event) → AreNumberedFrom 1 ns → AllByRecursion HasLine events → l.text ≡ rest_of ns events
      → (more : List NodeSpec) × (ns ≡ l.nodes.items ++ more) × AreNumberedFrom (suc (length l.nodes.items)) more × (l.rest ≡ rest_of more events);
}

abbrev pub decreases-loop-node : goal.decreases-loop-node
decreases-loop-node l = length l.rest
