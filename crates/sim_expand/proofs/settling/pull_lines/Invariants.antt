use Rattle.std.proofs.Common.{◌≤◌, length, map, string_bytes}
use Rattle.std.specs.List.{All}
use Rattle.sim_expand.specs.Inner.Taking.{IsNoFlowLine}
use Rattle.sim_expand.proofs.settling.pull_lines.Given as goal

-- the lines so far are steps', and no more than the clients so far
abbrev pub invariant-loop-place : goal.invariant-loop-place
invariant-loop-place l = record {
  steps : All IsNoFlowLine (map string_bytes l.lines.items);
  few : length l.lines.items ≤ l.place;
}
