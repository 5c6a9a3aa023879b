-- Logs: lists of entries. Indexes begin at 1; an empty log ends at index 0 with term 0. (Raft,
-- extended version 2014, Figure 2.)
use Rattle.std.specs.Prelude.{ℕ, zero, suc, ◌-◌, ◌^◌, List, [], ◌∷◌, ◌++◌, length, take, drop, Bool, ◌&&◌, ◌||◌, nat_le, ◌==◌, if◌then◌else◌}
use Rattle.machine_model.specs.MachineSpec.{MachineSpec}
use Rattle.machine_model.specs.After.{after}
use Rattle.machine_model.specs.declared.entry.Entry.{Entry}

-- the greatest term, and the greatest index: both stay below 2^40
abbrev pub MAX : ℕ
MAX = 2 ^ 40 - 1

-- the term of the entry at index p; 0 where there is none
unfoldable pub term_at : {C : Type 0} → List (Entry C) → ℕ → ℕ
term_at [] p = 0
term_at (e ∷ log) zero = 0
term_at (e ∷ log) (suc zero) = e.term
term_at (e ∷ log) (suc (suc p)) = term_at log (suc p)

-- the term of the last entry, or 0
abbrev pub last_term : {C : Type 0} → List (Entry C) → ℕ
last_term log = term_at log (length log)

-- index p is in the log, with this term
abbrev pub has : {C : Type 0} → List (Entry C) → ℕ → ℕ → Bool
has log p term = nat_le p (length log) && (term_at log p == term)

-- The log of a receiver whose commit is c, after entries that follow index p: those at or below
-- commit, and those whose index and term are there, are passed over; at the first that differs or
-- is missing the log is cut, and the rest appended. (Raft, Figure 2, AppendEntries, receiver 3 and
-- 4; that commit bounds the comparison is this project's own.)
unfoldable pub merge : {C : Type 0} → ℕ → ℕ → List (Entry C) → List (Entry C) → List (Entry C)
merge c p log [] = log
merge c p log (e ∷ es) =
    if nat_le (suc p) c || has log (suc p) e.term then merge c (suc p) log es else take p log ++ e ∷ es

-- The log after a snapshot of the entries P: where it holds P's last index with P's last term, what
-- follows is kept, else the whole log is discarded. (Raft, Figure 13, receiver 6 and 7.)
unfoldable pub install : {C : Type 0} → List (Entry C) → List (Entry C) → List (Entry C)
install log P = if has log (length P) (last_term P) then P ++ drop (length P) log else P

-- what the entries tell the machine, in order
unfoldable pub commands : {C : Type 0} → List (Entry C) → List C
commands [] = []
commands (e ∷ log) = e.command ∷ commands log

-- the machine's state after the whole log
abbrev pub state_after : {S C : Type 0} → MachineSpec S C → List (Entry C) → S
state_after m log = after m (commands log)
