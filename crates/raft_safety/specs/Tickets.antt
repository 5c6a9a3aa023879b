-- A ticket is the index and the term at which a leader appended a command that was proposed to it.
-- What a run says of the commands that stood under one.
use Rattle.std.specs.Prelude.{◌≡◌, ℕ, ◌-◌, ◌≤◌, Some, List, [], ◌∷◌, ◌++◌, slice_get}
use Rattle.machine_model.specs.declared.entry.Entry.{Entry}
use Rattle.raft_model.specs.Logs.{term_at}
use Rattle.raft_model.specs.Rafts.{Raft}
use Rattle.raft_model.specs.Worlds.{World}
use Rattle.raft_model.specs.Chains.{At, Chain}

-- at some moment some server's log had this command at this index, in this term
pub record Stood {C : Type 0} (past : List (World C)) (w : World C) (index term : ℕ) (command : C) : Type 0 where
  pub moment : ℕ
  pub who : ℕ
  pub server : Raft C
  pub at : At past w moment who server
  pub one : 1 ≤ index
  pub there : slice_get server.log (index - 1) ≡ Some (record { term = term; command = command })

-- a run goes on: its worlds are these, up to w, and then others
pub record GoesOn {W : Type 0} (past : List W) (w : W) (later : List W) (last : W) : Type 0 where
  pub rest : List W
  pub worlds : later ++ last ∷ [] ≡ past ++ w ∷ rest

-- The run's list has this entry at this index; no other command ever stood there in its term; and
-- however the run goes on, its list has the same entry there.
pub record Committed {C : Type 0} (past : List (World C)) (w : World C) (list : List (Entry C)) (index : ℕ) (entry : Entry C) : Type 0 where
  pub one : 1 ≤ index
  pub there : slice_get list (index - 1) ≡ Some entry
  pub alone : (command : C) → Stood past w index entry.term command → command ≡ entry.command
  pub stays : (later : List (World C)) (last : World C) (longer : List (Entry C)) →
      GoesOn past w later last → Chain later last longer → slice_get longer (index - 1) ≡ Some entry

-- the entry that the list has at this index is of this term, and is settled
pub record IsCommittedIn {C : Type 0} (past : List (World C)) (w : World C) (list : List (Entry C)) (index term : ℕ) : Type 0 where
  pub entry : Entry C
  pub of : entry.term ≡ term
  pub settled : Committed past w list index entry

-- whatever a server has committed, at any moment, is settled, in the term that it has there
abbrev pub CommitIsFinal : {C : Type 0} → List (World C) → World C → List (Entry C) → Type 0
CommitIsFinal {C} past w list = (k i index : ℕ) (s : Raft C) → At past w k i s → 1 ≤ index → index ≤ s.commit →
    IsCommittedIn past w list index (term_at s.log index)
