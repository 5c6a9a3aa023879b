-- Faults of what is read at the front of what stands from a place on.
use Rattle.std.specs.Prelude.{ℕ, ◌+◌, Result, Ok, Err}

-- the place of a fault, moved there
abbrev pub moved_fault : {A : Type 0} → ℕ → Result A ℕ → Result A ℕ
moved_fault at (Ok x) = Ok x
moved_fault at (Err place) = Err (at + place)
