use Rattle.std.proofs.Common.{◌≡◌, ◌-◌, ◌≤◌, ◌++◌, length, take, drop}
use Rattle.group_model.specs.Agents.{news}
use Rattle.client_agent.specs.Inner.Runs.{runs_of}
use Rattle.client_agent.proofs.Told.{told_of}
use Rattle.client_agent.proofs.reporting.news.Given as goal

abbrev pub invariant-loop-row : goal.invariant-loop-row
invariant-loop-row l = record {
  few : length l.items ≤ 64;
  all : l.items ++ take (64 - length l.items) (told_of (runs_of l.started l.running) l.ended (drop l.row-index l.rows)) ≡ news (runs_of l.started l.running) l.ended l.rows;
}
