-- Faults: the exit status of a run that ends by one, and what each is of.
use Rattle.std.specs.Prelude.{ℕ, Bool, true, false}
use Rattle.journal.specs.declared.host.OpenError.{OpenError}
use Rattle.journal.specs.declared.host.OpenError.TheVariants as errors
use Rattle.journal.specs.declared.stop.Stop.{Stop}
use Rattle.journal.specs.declared.stop.Stop.TheVariants as stops
use Rattle.server_node.specs.declared.fault.Fault.{Fault}
use Rattle.server_node.specs.declared.fault.Fault.TheVariants as faults

-- 1 where the input is at fault, 3 where there was no memory, else 2
abbrev pub status_of : Fault → ℕ
status_of (faults.TooLong size) = 1
status_of faults.Cut = 1
status_of faults.Usage = 2
status_of faults.Unread = 2
status_of faults.NotAFile = 2
status_of faults.InUse = 2
status_of faults.Another = 2
status_of (faults.BadStore place) = 2
status_of faults.Unstored = 2
status_of faults.Input = 2
status_of faults.Output = 2
status_of faults.NoMemory = 3

-- what a run may end by before its first item
abbrev pub is_of_beginning : Fault → Bool
is_of_beginning faults.Usage = true
is_of_beginning (faults.BadStore place) = true
is_of_beginning faults.Another = true
is_of_beginning faults.NoMemory = true
is_of_beginning _ = false

-- what stopped the loop, and why a journal was not opened
abbrev pub fault_of : Stop → Fault
fault_of (stops.TooLong size) = faults.TooLong size
fault_of stops.Cut = faults.Cut
fault_of stops.Input = faults.Input
fault_of stops.Unstored = faults.Unstored
fault_of stops.Output = faults.Output
fault_of stops.NoMemory = faults.NoMemory

abbrev pub open_fault : OpenError → Fault
open_fault errors.NoMemory = faults.NoMemory
open_fault errors.NotAFile = faults.NotAFile
open_fault errors.InUse = faults.InUse
open_fault errors.Unread = faults.Unread
