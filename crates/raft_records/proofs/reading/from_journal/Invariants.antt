use Rattle.std.proofs.Common.{◌≤◌, ◌-◌, length}
use Rattle.journal.specs.Starts.{ReplaysUpTo}
use Rattle.raft_records.specs.Records.{raft_replay}
use Rattle.raft_records.proofs.reading.from_journal.Given as goal

-- what the records up to here stand for
abbrev pub invariant-records : goal.invariant-records
invariant-records g l = record { within : l.at ≤ length l.bytes; so : ReplaysUpTo (raft_replay g.M.Machine.spec) l.bytes l.start l.at l.stable }

abbrev pub decreases-records : goal.decreases-records
decreases-records g l = length l.bytes - l.at
