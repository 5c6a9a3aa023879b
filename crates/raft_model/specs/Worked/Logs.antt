-- What an Append and an Install do to the receiver's log.
use Rattle.std.specs.Prelude.{◌≡◌, false, Some, None, Ok, [], ◌∷◌}
use Rattle.machine_model.specs.Tally.{tally_spec}
use Rattle.raft_model.specs.Logs.{merge, install}
use Rattle.raft_model.specs.Messages.{Append, AppendReply}
use Rattle.raft_model.specs.Rafts.{Follower}
use Rattle.raft_model.specs.Steps.{Arrives, step}
use Rattle.raft_model.specs.Worked.Words.{adds, message, follower}

-- An Append whose entries are there already leaves the log.
abbrev pub HeldAlready : Type 0
HeldAlready = merge 0 1 (adds 1 7 ∷ adds 1 8 ∷ []) (adds 1 8 ∷ []) ≡ adds 1 7 ∷ adds 1 8 ∷ []

-- A late one that is shorter, and agrees, shortens nothing.
abbrev pub LateAppend : Type 0
LateAppend = merge 0 0 (adds 1 7 ∷ adds 1 8 ∷ adds 2 9 ∷ []) (adds 1 7 ∷ []) ≡ adds 1 7 ∷ adds 1 8 ∷ adds 2 9 ∷ []

-- At the first entry that differs the log is cut.
abbrev pub DiffersAtFirst : Type 0
DiffersAtFirst = merge 0 1 (adds 1 7 ∷ adds 1 8 ∷ adds 1 9 ∷ []) (adds 2 4 ∷ []) ≡ adds 1 7 ∷ adds 2 4 ∷ []

-- What is committed is passed over, whatever the message says.
abbrev pub CommittedStays : Type 0
CommittedStays = merge 2 0 (adds 1 7 ∷ adds 1 8 ∷ []) (adds 2 9 ∷ adds 1 8 ∷ adds 2 9 ∷ []) ≡ adds 1 7 ∷ adds 1 8 ∷ adds 2 9 ∷ []

-- A previous entry of another term is refused, with the index before it.
abbrev pub OtherPrevious : Type 0
OtherPrevious = step tally_spec 3 2 (follower 2 (adds 1 7 ∷ adds 1 8 ∷ [])) (Arrives (message 0 2 2 (Append 2 2 0 (adds 2 9 ∷ [])))) ≡ Ok (record {
  server = record { term = 2; vote = None; log = adds 1 7 ∷ adds 1 8 ∷ []; covered = 0; commit = 0; known = Some 0; mode = Follower };
  sent = message 2 0 2 (AppendReply 2 false 1) ∷ [];
})

-- One past the log is refused with the last index.
abbrev pub MissingPrevious : Type 0
MissingPrevious = step tally_spec 3 2 (follower 2 (adds 1 7 ∷ [])) (Arrives (message 0 2 2 (Append 5 2 0 []))) ≡ Ok (record {
  server = record { term = 2; vote = None; log = adds 1 7 ∷ []; covered = 0; commit = 0; known = Some 0; mode = Follower };
  sent = message 2 0 2 (AppendReply 2 false 1) ∷ [];
})

-- An Append of a lower term is refused with 0.
abbrev pub LowerTerm : Type 0
LowerTerm = step tally_spec 3 2 (follower 2 (adds 1 7 ∷ [])) (Arrives (message 0 2 1 (Append 1 1 1 []))) ≡ Ok (record {
  server = follower 2 (adds 1 7 ∷ []);
  sent = message 2 0 2 (AppendReply 1 false 0) ∷ [];
})

-- An Install of a first part that agrees keeps the rest.
abbrev pub InstallKeeps : Type 0
InstallKeeps = install (adds 1 7 ∷ adds 1 8 ∷ adds 2 9 ∷ []) (adds 1 7 ∷ adds 1 8 ∷ []) ≡ adds 1 7 ∷ adds 1 8 ∷ adds 2 9 ∷ []

-- One that ends in another term discards all.
abbrev pub InstallDiscards : Type 0
InstallDiscards = install (adds 1 7 ∷ adds 1 8 ∷ adds 2 9 ∷ []) (adds 1 7 ∷ adds 2 8 ∷ []) ≡ adds 1 7 ∷ adds 2 8 ∷ []
