use Rattle.std.proofs.Common.{◌≤◌, ◌-◌, length}
use Rattle.journal.specs.Starts.{ReplaysUpTo}
use Rattle.client_node.specs.Records.{started_replay}
use Rattle.client_node.proofs.reading.from_journal.Given as goal

-- what the records up to here stand for
abbrev pub invariant-records : goal.invariant-records
invariant-records l = record { within : l.at ≤ length l.bytes; so : ReplaysUpTo started_replay l.bytes l.start l.at l.all.items }

abbrev pub decreases-records : goal.decreases-records
decreases-records l = length l.bytes - l.at
