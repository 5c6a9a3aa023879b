use Rattle.std.proofs.Common.{◌≡◌, drop}
use Rattle.group_model.specs.Agents.{starts}
use Rattle.client_agent.specs.Inner.Rooms.{IsLeftBeside}
use Rattle.client_agent.specs.Inner.Runs.{runs_of, MoreIds}
use Rattle.client_agent.proofs.starting.start_listed.Given as goal

abbrev pub invariant-loop-row : goal.invariant-loop-row
invariant-loop-row l = record {
  left : IsLeftBeside l.fn.whole l.running.items l.left;
  rest : starts l.fn.whole (drop l.row-index l.rows) (runs_of l.started l.running.items) ≡ starts l.fn.whole l.rows (runs_of l.fn.started l.fn.running.items);
  grows : MoreIds l.fn.started l.started;
}
