-- Messages between servers: the requests and replies of Raft's three calls. Each has its sender's
-- term; a reply also has the term that it answers (`asked`), since messages may come late, twice or
-- never. (Raft, extended version 2014, Figures 2 and 13.)
use Rattle.std.specs.Prelude.{ℕ, zero, suc, Bool, ◌==◌, if◌then◌else◌, List, [], ◌∷◌, ◌++◌}
use Rattle.machine_model.specs.declared.entry.Entry.{Entry}

-- what a message says, beside its sender, its receiver and its term
pub data Body (C : Type 0) : Type 0 where
  -- the index and the term of the candidate's last entry
  VoteRequest : (last_index last_term : ℕ) → Body C
  -- whether the vote is granted
  VoteReply : (asked : ℕ) (granted : Bool) → Body C
  -- the entries that follow index prev, the term of the entry at prev, and the leader's commit
  -- index
  Append : (prev prev_term commit : ℕ) (entries : List (Entry C)) → Body C
  -- ok: the log is held up to index at; a refusal: where to try again
  AppendReply : (asked : ℕ) (ok : Bool) (at : ℕ) → Body C
  -- all entries that the snapshot covers: its index is their number, its term the last one's (a
  -- frame has the state after them)
  Install : (covered : List (Entry C)) → Body C
  -- the log is held up to index at
  InstallReply : (asked at : ℕ) → Body C

-- from and to are the places of servers in the group, from 0
pub record Message (C : Type 0) : Type 0 where
  pub from : ℕ
  pub to : ℕ
  pub term : ℕ
  pub body : Body C

-- a message to each of the first k servers but `me`, in rising number
unfoldable pub to_others : {C : Type 0} → ℕ → (ℕ → Message C) → ℕ → List (Message C)
to_others me message zero = []
to_others me message (suc k) = to_others me message k ++ (if k == me then [] else (message k ∷ []))
