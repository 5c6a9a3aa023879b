use Rattle.std.proofs.Common.{◌≡◌, ◌++◌, filter}
use Rattle.fsm_tables.specs.Claims.{is_live}
use Rattle.fsm_tables.specs.Runs.{rows_left}
use Rattle.sim_ending.proofs.allocations.live_of.Given as goal

-- the live ones so far
abbrev pub invariant-loop-row : goal.invariant-loop-row
invariant-loop-row l = l.live.items ++ filter is_live (rows_left l.row-iterator) ≡ filter is_live l.rows
