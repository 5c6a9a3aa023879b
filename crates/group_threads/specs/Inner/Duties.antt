-- What the threads of a group are for, by their numbers.
use Rattle.std.specs.Prelude.{◌≡◌, ℕ, ◌+◌, ◌*◌, ◌<◌, ◌≤◌, Option, Some, None}
use Rattle.group_threads.specs.declared.running.Duty.{Duty}
use Rattle.group_threads.specs.declared.running.Duty.TheVariants.{Actor, Worker}

-- Each actor has one, at its place. Then each server has so many for its workers: those of the
-- server at place k begin behind those of k servers. Without workers there are no more.
abbrev pub IsDuty : ℕ → ℕ → ℕ → Option Duty → Type 0
IsDuty number actors workers (Some (Actor place)) = (number < actors) × (place ≡ number)
IsDuty number actors workers (Some (Worker place)) =
    (actors + place * workers ≤ number) × (number < actors + (place + 1) * workers)
IsDuty number actors workers None = (actors ≤ number) × (workers ≡ 0)
