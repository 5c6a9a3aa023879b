use Rattle.std.proofs.Common.{take}
use Rattle.group_inputs.specs.Events.{group_events}
use Rattle.sim_recovery.specs.Recoveries.{AreWayRows}
use Rattle.sim_recovery.proofs.table.rows_at.Given as goal

-- the rows of the moments so far
abbrev pub invariant-loop-after : goal.invariant-loop-after
invariant-loop-after l = AreWayRows l.servers l.nodes (group_events l.events) (take l.after-index l.moments) l.rows.items
