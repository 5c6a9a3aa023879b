-- The entries of the logs that are reported.
use Rattle.std.specs.Prelude.{ℕ, ◌-◌, Bool, false, nat_eq, nat_le, if◌then◌else◌, Option, None, Some, slice_get}
use Rattle.sim_reports.specs.declared.report.EntryReport.{EntryReport}
use Rattle.sim_reports.specs.declared.report.ServerReport.{ServerReport}

-- the entry at an index of a server's log, if the server has it and its snapshot does not cover it
abbrev pub entry_of : ServerReport → ℕ → Option EntryReport
entry_of server index =
    if nat_le index server.covered then None else slice_get server.log.items (index - server.covered - 1)

abbrev pub is_of_term : ℕ → Option EntryReport → Bool
is_of_term term None = false
is_of_term term (Some entry) = nat_eq entry.term term

-- whether the server has an entry of this term there
abbrev pub has_entry : ServerReport → ℕ → ℕ → Bool
has_entry server index term = is_of_term term (entry_of server index)
