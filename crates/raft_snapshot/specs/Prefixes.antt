-- Servers whose covered entries are filled in.
use Rattle.std.specs.Prelude.{◌≡◌, ℕ, ◌≤◌, ◌++◌, List, length, drop, Result, Ok, Err, Bool, false, not, nat_lt, nat_le, if◌then◌else◌}
use Rattle.rows.specs.declared.refusal.Refusal.{Refusal}
use Rattle.machine_model.specs.declared.entry.Entry.{Entry}
use Rattle.raft_model.specs.Logs.{term_at, last_term}
use Rattle.raft_model.specs.Messages.{Body, Install}
use Rattle.raft_model.specs.Rafts.{Raft, RaftTurn, is_leader}
use Rattle.raft_model.specs.Steps.{Input, Arrives, Timeout, Crash, Restart}

-- a log with these in place of as many first entries
abbrev pub log_with_prefix : {C : Type 0} → List (Entry C) → List (Entry C) → List (Entry C)
log_with_prefix covered log = covered ++ drop (length covered) log

-- a server with such a log
abbrev pub with_prefix : {C : Type 0} → List (Entry C) → Raft C → Raft C
with_prefix covered s = record s { log = log_with_prefix covered s.log }

abbrev pub turn_with_prefix : {C : Type 0} → List (Entry C) → RaftTurn C → RaftTurn C
turn_with_prefix covered t = record { server = with_prefix covered t.server; sent = t.sent }

abbrev pub result_with_prefix : {C : Type 0} → List (Entry C) → Result (RaftTurn C) Refusal → Result (RaftTurn C) Refusal
result_with_prefix covered (Ok t) = Ok (turn_with_prefix covered t)
result_with_prefix covered (Err r) = Err r

-- The server's log has room for these, the last of which has the term that the log has there, and
-- all of them are committed.
pub record FitsPrefix {C : Type 0} (covered : List (Entry C)) (s : Raft C) : Type 0 where
  pub within : length covered ≤ length s.log
  pub term : last_term covered ≡ term_at s.log (length covered)
  pub committed : length covered ≤ s.commit

-- a message that brings no snapshot
abbrev pub IsPlain : {C : Type 0} → Body C → Type 0
IsPlain (Install list) = ⊥
IsPlain _ = Unit {0}

-- an input that neither brings nor takes nor sends a snapshot, and asks no machine
abbrev pub IsPlainInput : {C : Type 0} → Input C → Type 0
IsPlainInput (Arrives message) = IsPlain message.body
IsPlainInput Timeout = Unit {0}
IsPlainInput Crash = Unit {0}
IsPlainInput Restart = Unit {0}
IsPlainInput _ = ⊥

-- A snapshot of this index that comes in a message of this term is taken over: the message is of no
-- lower term, the server does not lead, and the index is above its commit index. (Raft, Figure 13.)
abbrev pub takes_snapshot : {C : Type 0} → ℕ → ℕ → Raft C → Bool
takes_snapshot term index s =
    if nat_lt term s.term then false
    else if is_leader s.mode then false
    else not (nat_le index s.commit)
