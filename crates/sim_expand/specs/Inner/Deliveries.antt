-- What a flow does behind a `settle elect`.
use Rattle.std.specs.Prelude.{◌≤◌, ◌==◌, ◌++◌, ◌∷◌, ℕ, Bool, if◌then◌else◌, not, List, [], length, Option, Some, None, filter}
use Rattle.std.specs.List.{list_any}
use Rattle.world.specs.GroupView.{GroupView}
use Rattle.sim_expand.specs.Counts.{IsFlow, IsNoFlow}

-- what a line is, read as a flow's: how many messages that takes at most
abbrev pub IsReadAs : List ℕ → Option ℕ → Type 0
IsReadAs line None = IsNoFlow line
IsReadAs line (Some most) = IsFlow line most

-- it is the number of a message that was sent
abbrev pub IsSent : GroupView → ℕ → Type 0
IsSent world message = (1 ≤ message) × (message ≤ length world.outbox.frames)

-- this number is among those
abbrev pub is_one_of : List ℕ → ℕ → Bool
is_one_of numbers number = list_any (λ n. n == number) numbers

-- the first one behind the others, or left out where it is among those
abbrev pub passed_over : List ℕ → List ℕ → List ℕ
passed_over others [] = []
passed_over others (number ∷ numbers) = if is_one_of others number then numbers else (numbers ++ number ∷ [])

-- these without those
abbrev pub without : List ℕ → List ℕ → List ℕ
without others numbers = filter (λ number. not (is_one_of others number)) numbers
