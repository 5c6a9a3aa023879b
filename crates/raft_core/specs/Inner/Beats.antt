-- What a leader sends at a beat.
use Rattle.std.specs.Prelude.{ℕ, ◌-◌, nat_le, if◌then◌else◌, List, length, take, drop}
use Rattle.machine_model.specs.declared.entry.Entry.{Entry}
use Rattle.raft_model.specs.Logs.{term_at}
use Rattle.raft_model.specs.Messages.{Body, Message, Append, Install}

-- from index `next` on: all entries that the snapshot covers, where next is at or below that; else
-- at most 32 entries of the log, with the term of the entry before them
abbrev pub body_from : {C : Type 0} → ℕ → List (Entry C) → List (Entry C) → ℕ → Body C
body_from commit covered log next =
    if nat_le next (length covered)
    then Install covered
    else Append (next - 1) (term_at log (next - 1)) commit (take 32 (drop (next - 1) log))

-- the same as a message to server `to`
abbrev pub sent_from : {C : Type 0} → ℕ → ℕ → ℕ → List (Entry C) → List (Entry C) → ℕ → ℕ → Message C
sent_from me term commit covered log next to = record { from = me; to = to; term = term; body = body_from commit covered log next }
