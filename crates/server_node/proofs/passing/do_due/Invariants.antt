use Rattle.std.proofs.Common.{take}
use Rattle.std.specs.List.{filter_map}
use Rattle.server_node.specs.Inner.Going.{HandedAllBy, Leads}
use Rattle.server_node.specs.Passing.{input_due}
use Rattle.server_node.proofs.passing.do_due.Given as goal

-- those so far were handed in
abbrev pub invariant-loop-what : goal.invariant-loop-what
invariant-loop-what l = record {
  all : HandedAllBy l.fn.server (filter_map (input_due l.leader) (take l.what-index l.due)) l.server l.fn.frames.items l.frames.items;
  kept : Leads l.fn.change l.change l.fn.server l.server;
}
