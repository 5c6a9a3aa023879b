use Rattle.std.proofs.Common.{◌≡◌, ◌++◌, ◌∷◌, [], map, rules}
use Rattle.std.specs.List.{AllByRecursion}
use Rattle.group_inputs.specs.Events.{group_events}
use Rattle.event_texts.specs.EventLines.{HasLine, event_line}
use Rattle.event_texts.specs.Transcripts.{lines_text, node_line, recorded_of, servers_line}
use Rattle.event_texts.proofs.Records.{written}
use Rattle.event_texts.proofs.transcript.write.Goals as goal

pub returns : goal.returns
returns c =
    let servers = c.args.servers in
    let nodes = c.args.nodes.now in
    let events = group_events c.args.events.now in
    let first : c.push.new.self.items ≡ servers_line servers ++ 10 ∷ [] = search rules in
    let second : c.append_nodes.new.out.items ≡ c.push.new.self.items ++ lines_text (map node_line nodes) = search rules in
    let third : c.append_events.new.out.items ≡ c.append_nodes.new.out.items ++ lines_text (map event_line events) = search rules in
    let have : AllByRecursion HasLine events = search rules in
    record {
      can = record {
        servers = c.requires.group;
        nodes = c.requires.numbered;
        events = have;
      };
      is = written (recorded_of servers nodes events) c.push.new.self.items c.append_nodes.new.out.items c.append_events.new.out.items first second third;
    }
