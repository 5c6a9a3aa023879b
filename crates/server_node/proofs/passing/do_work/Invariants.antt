use Rattle.server_node.specs.Inner.Going.{HandedOwnBy, Leads}
use Rattle.server_node.proofs.passing.do_work.Given as goal

-- what was asked so far
abbrev pub invariant-steps : goal.invariant-steps
invariant-steps l = record {
  all : HandedOwnBy l.fn.server l.server l.fn.frames.items l.frames.items;
  kept : Leads l.fn.change l.change l.fn.server l.server;
}
