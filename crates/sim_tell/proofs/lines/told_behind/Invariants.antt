use Rattle.std.proofs.Common.{◌≡◌, ◌+◌, length, map}
use Rattle.sim_report_lines.specs.Grids.{cells_of}
use Rattle.sim_tell.specs.Inner.Newest.{mark_of}
use Rattle.sim_tell.proofs.Runs.{ToldSoFar}
use Rattle.sim_tell.proofs.lines.told_behind.Given as goal

abbrev pub invariant-loop-event : goal.invariant-loop-event
invariant-loop-event l = record {
  rows : length l.grid.rows.items ≡ length l.fn.grid.rows.items + l.event-index;
  number : l.number ≡ l.event-index;
  told : ToldSoFar l.fn.world l.events (map cells_of l.fn.grid.rows.items) (map cells_of l.grid.rows.items) l.world (mark_of l.newest) l.event-index;
}
