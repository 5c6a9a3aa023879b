-- What a message tells of a refusal, and the number in a frame.
use Rattle.std.specs.Prelude.{ℕ}
use Rattle.rows.specs.declared.refusal.Refusal.{Refusal}
use Rattle.rows.specs.declared.refusal.Refusal.TheVariants as refusals
use Rattle.rows.specs.declared.reason.Reason.{Reason}
use Rattle.rows.specs.declared.reason.Reason.TheVariants as reasons

-- what a message tells of a refusal
abbrev pub reason_of : Refusal → Reason
reason_of refusals.NoMemory = reasons.NoMemory
reason_of (refusals.NotLeader leader) = reasons.NotLeader leader
reason_of refusals.NotOpen = reasons.NotOpen
reason_of refusals.NotOutstanding = reasons.NotOutstanding
reason_of refusals.TokenDiffers = reasons.TokenDiffers
reason_of refusals.SnapshotTooOld = reasons.SnapshotTooOld
reason_of refusals.JobChanged = reasons.JobChanged
reason_of refusals.UnknownJob = reasons.UnknownJob
reason_of refusals.UnknownNode = reasons.UnknownNode
reason_of refusals.NodeDiffers = reasons.NodeDiffers
reason_of refusals.BadName = reasons.BadName
reason_of refusals.OutOfRange = reasons.OutOfRange
reason_of refusals.TableFull = reasons.TableFull
reason_of refusals.Exhausted = reasons.Exhausted
reason_of (refusals.Frame offset) = reasons.Frame
reason_of refusals.Down = reasons.Down
reason_of refusals.QueueFull = reasons.QueueFull
reason_of refusals.JobStopped = reasons.JobStopped
reason_of refusals.StaleExpiry = reasons.StaleExpiry
reason_of refusals.NotDraining = reasons.NotDraining
reason_of refusals.UnknownAlloc = reasons.UnknownAlloc

-- the number in a frame, from 1 to 21
abbrev pub reason_number : Reason → ℕ
reason_number reasons.NoMemory = 1
reason_number (reasons.NotLeader leader) = 2
reason_number reasons.NotOpen = 3
reason_number reasons.NotOutstanding = 4
reason_number reasons.TokenDiffers = 5
reason_number reasons.SnapshotTooOld = 6
reason_number reasons.JobChanged = 7
reason_number reasons.UnknownJob = 8
reason_number reasons.UnknownNode = 9
reason_number reasons.NodeDiffers = 10
reason_number reasons.BadName = 11
reason_number reasons.OutOfRange = 12
reason_number reasons.TableFull = 13
reason_number reasons.Exhausted = 14
reason_number reasons.Frame = 15
reason_number reasons.Down = 16
reason_number reasons.QueueFull = 17
reason_number reasons.JobStopped = 18
reason_number reasons.StaleExpiry = 19
reason_number reasons.NotDraining = 20
reason_number reasons.UnknownAlloc = 21
