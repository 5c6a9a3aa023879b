-- The numbers of the refusals.
use Rattle.std.specs.Prelude.{ℕ}
use Rattle.rows.specs.declared.refusal.Refusal.{Refusal}
use Rattle.rows.specs.declared.refusal.Refusal.TheVariants as refusals

-- the number of a refusal, as frames and output show it
abbrev pub number_of : Refusal → ℕ
number_of refusals.NoMemory = 1
number_of (refusals.NotLeader leader) = 2
number_of refusals.NotOpen = 3
number_of refusals.NotOutstanding = 4
number_of refusals.TokenDiffers = 5
number_of refusals.SnapshotTooOld = 6
number_of refusals.JobChanged = 7
number_of refusals.UnknownJob = 8
number_of refusals.UnknownNode = 9
number_of refusals.NodeDiffers = 10
number_of refusals.BadName = 11
number_of refusals.OutOfRange = 12
number_of refusals.TableFull = 13
number_of refusals.Exhausted = 14
number_of (refusals.Frame offset) = 15
number_of refusals.Down = 16
number_of refusals.QueueFull = 17
number_of refusals.JobStopped = 18
number_of refusals.StaleExpiry = 19
number_of refusals.NotDraining = 20
number_of refusals.UnknownAlloc = 21
