-- Reports that would change no row, told by the rows of their allocations.
use Rattle.std.specs.Prelude.{ℕ, Bool, true, Option, Some, None, List}
use Rattle.rows.specs.declared.allocation.Allocation.{Allocation}
use Rattle.rows.specs.declared.command.Report.{Report}
use Rattle.fsm_model.specs.Words.{State, alloc_of}
use Rattle.group_model.specs.ClientRequests.{is_unmoved}

-- a row stays as it is, if there is one
abbrev pub stays_of : ℕ → List Report → Option Allocation → Bool
stays_of n rs None = true
stays_of n rs (Some a) = is_unmoved n rs a

-- that of a report's allocation
abbrev pub is_unmoved_at : ℕ → List Report → State → Report → Bool
is_unmoved_at n rs s r = stays_of n rs (alloc_of r.id s)
