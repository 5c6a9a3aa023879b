-- Texts that can stand in one line.
use Rattle.std.specs.Prelude.{◌≤◌, ◌<◌, ℕ, List}
use Rattle.std.specs.List.{All}

-- ASCII without control characters, so without a newline
abbrev pub IsPrintable : List ℕ → Type 0
IsPrintable text = All (λ b. (32 ≤ b) × (b < 128)) text
