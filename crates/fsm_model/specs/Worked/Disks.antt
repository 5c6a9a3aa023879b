-- Two nodes, with 100 and 50 MB of disk, and a job of two allocations, each of which takes 100 MHz
-- and 100 MB of memory: there is room for ten of them on each node, but for disk.
use Rattle.std.specs.Prelude.{◌≡◌, ℕ, Some, None, List, [], ◌∷◌}
use Rattle.rows.specs.declared.refusal.Refusal.TheVariants as refusals
use Rattle.rows.specs.declared.command.AcceptedPlace.{AcceptedPlace}
use Rattle.rows.specs.declared.command.Command.{Command}
use Rattle.fsm_tables.specs.Claims.{claims, used}
use Rattle.fsm_model.specs.Words.{State, no_rows}
use Rattle.fsm_model.specs.Effect.{applied}
use Rattle.fsm_model.specs.Admission.{admission}
use Rattle.fsm_model.specs.Worked.Words.{web, size_with_disk, eval_id, comes, runs, place, plans, after_all}

-- each of the two asks for so much disk
abbrev pub two_disks : ℕ → State
two_disks disk = after_all no_rows (
    comes 1 (size_with_disk 1000 1000 100)
    ∷ comes 2 (size_with_disk 1000 1000 50)
    ∷ runs web 2 (size_with_disk 100 100 disk)
    ∷ [])

-- the plan of these places
abbrev pub puts : List AcceptedPlace → Command
puts places = plans (eval_id 3 0) web 3 [] places

-- `main[index]` on a node
abbrev pub main_on : ℕ → ℕ → ℕ → AcceptedPlace
main_on disk index n = place index n (size_with_disk 100 100 disk)

abbrev pub both_on_one : ℕ → Command
both_on_one disk = puts (main_on disk 0 1 ∷ main_on disk 1 1 ∷ [])

abbrev pub one_each : ℕ → Command
one_each disk = puts (main_on disk 0 1 ∷ main_on disk 1 2 ∷ [])

-- of 60 MB node 1 bears one and no two, and node 2 none
abbrev pub OnePasses : Type 0
OnePasses = admission (two_disks 60) (puts (main_on 60 0 1 ∷ [])) ≡ None

abbrev pub TwoAreTooMany : Type 0
TwoAreTooMany = admission (two_disks 60) (both_on_one 60) ≡ Some refusals.OutOfRange

abbrev pub TooLargeForTheOther : Type 0
TooLargeForTheOther = admission (two_disks 60) (one_each 60) ≡ Some refusals.OutOfRange

-- of 50 MB node 1 bears two, which have all of its disk, and node 2 one
abbrev pub TwoPass : Type 0
TwoPass = admission (two_disks 50) (both_on_one 50) ≡ None

abbrev pub AllDiskInUse : Type 0
AllDiskInUse = used 1 (claims (applied (two_disks 50) (both_on_one 50)).allocs) ≡ size_with_disk 200 200 100

abbrev pub OneEachPasses : Type 0
OneEachPasses = admission (two_disks 50) (one_each 50) ≡ None

-- of 51 MB it does not bear two
abbrev pub OneDiskTooMany : Type 0
OneDiskTooMany = admission (two_disks 51) (both_on_one 51) ≡ Some refusals.OutOfRange
