-- What a ticket says of a server's log, and what a server knows of the terms in it.
use Rattle.std.specs.Prelude.{◌≡◌, ℕ, suc, ◌≤◌, ◌<◌, ◌⊎◌, ◌==◌, nat_lt, nat_le, if◌then◌else◌, Option, Some, None, List, [], ◌∷◌, ◌++◌, length}
use Rattle.machine_model.specs.declared.entry.Entry.{Entry}
use Rattle.raft_model.specs.Logs.{term_at}
use Rattle.raft_model.specs.Rafts.{Raft, is_up}
use Rattle.raft_core.specs.declared.ticket.ProposalStatus.{ProposalStatus}
use Rattle.raft_core.specs.declared.ticket.ProposalStatus.TheVariants.{Pending, Committed, Superseded, Compacted}

-- the command is the last entry of the server's log: at this index, and in this term, which is the
-- server's own
pub record IsTicket {C : Type 0} (s : Raft C) (command : C) (index term : ℕ) : Type 0 where
  pub before : List (Entry C)
  pub log : s.log ≡ before ++ record { term = term; command = command } ∷ []
  pub place : index ≡ suc (length before)
  pub own : term ≡ s.term

-- the entry at this index is in the log, behind what is covered, and has this term
pub record HasTermAt {C : Type 0} (s : Raft C) (index term : ℕ) : Type 0 where
  pub behind : s.covered < index
  pub within : index ≤ length s.log
  pub is : term ≡ term_at s.log index

-- the entry at this index is covered, or there is none
abbrev pub HasNoTermAt : {C : Type 0} → Raft C → ℕ → Type 0
HasNoTermAt s index = (index ≤ s.covered) ⊎ (length s.log < index)

-- What a server that is up knows of this index and this term: nothing while it has not applied so
-- many entries, nor where its snapshot covers the entry; else whether that has this term.
abbrev pub proposal_status_of : {C : Type 0} → Raft C → ℕ → ℕ → Option ProposalStatus
proposal_status_of s index term =
    if is_up s.mode
    then Some (if nat_lt s.commit index then Pending
    else if nat_le index s.covered then Compacted
    else if term_at s.log index == term then Committed
    else Superseded)
    else None
