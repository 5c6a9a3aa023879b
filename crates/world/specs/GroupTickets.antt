-- What the servers of a group know of a command by its ticket, and what then holds, whatever
-- happens.
use Rattle.std.specs.Prelude.{◌≡◌, ℕ, List, length}
use Rattle.rows.specs.declared.command.Command.{Command}
use Rattle.machine_model.specs.declared.entry.Entry.{Entry}
use Rattle.raft_safety.specs.Tickets.{Committed}
use Rattle.group_model.specs.Worlds.{World, raft_of}
use Rattle.group_safety.specs.Claims.{OneList, logs}
use Rattle.world.specs.GroupView.{GroupView, GroupRunsTo}

-- The value has a run, and there is one list, of length `chain`, which is that of each of its runs.
-- At this index it has an entry whose term is such, and in each of its runs that is settled: no
-- other command ever stood there in that term, in any log, and however the run goes on, its list has
-- this entry there.
pub record CommittedInGroup (view : GroupView) (index : ℕ) (IsSuch : ℕ → Type 0) : Type 0 where
  pub past : List World
  pub world : World
  pub runs : GroupRunsTo view past world
  pub list : List (Entry Command)
  pub long : length list ≡ view.chain
  pub ever : (past : List World) (w : World) → GroupRunsTo view past w → OneList past w list
  pub entry : Entry Command
  pub of : IsSuch entry.term
  pub settled : (past : List World) (w : World) → GroupRunsTo view past w → Committed (logs past) (raft_of w) list index entry
