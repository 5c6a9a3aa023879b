-- Votes: who gets them, and what wins.
use Rattle.std.specs.Prelude.{◌≡◌, true, false, Some, None, Ok, Err, [], ◌∷◌}
use Rattle.rows.specs.declared.refusal.Refusal.TheVariants as refusals
use Rattle.machine_model.specs.Tally.{tally_spec}
use Rattle.raft_model.specs.Logs.{MAX}
use Rattle.raft_model.specs.Messages.{VoteRequest, VoteReply}
use Rattle.raft_model.specs.Rafts.{Follower, Candidate, Leader, newcomer}
use Rattle.raft_model.specs.Steps.{Arrives, Timeout, Crash, Restart, step}
use Rattle.raft_model.specs.Worked.Words.{adds, begins, message, follower, after_inputs}

-- A candidate of term 1 with an empty log asks the others, in rising number.
abbrev pub CandidateAsks : Type 0
CandidateAsks = step tally_spec 3 1 newcomer Timeout ≡ Ok (record {
  server = record { term = 1; vote = Some 1; log = []; covered = 0; commit = 0; known = None; mode = Candidate (false ∷ true ∷ false ∷ []) };
  sent = message 1 0 1 (VoteRequest 0 0) ∷ message 1 2 1 (VoteRequest 0 0) ∷ [];
})

-- A free vote goes to the first that asks in a greater term.
abbrev pub VoterGrants : Type 0
VoterGrants = step tally_spec 3 2 newcomer (Arrives (message 1 2 1 (VoteRequest 0 0))) ≡ Ok (record {
  server = record { term = 1; vote = Some 1; log = []; covered = 0; commit = 0; known = None; mode = Follower };
  sent = message 2 1 1 (VoteReply 1 true) ∷ [];
})

-- A voter whose last entry has the greater term denies, though the candidate's log is longer.
abbrev pub NewerVoterDenies : Type 0
NewerVoterDenies = step tally_spec 3 2 (follower 2 (adds 2 5 ∷ [])) (Arrives (message 1 2 3 (VoteRequest 4 1))) ≡ Ok (record {
  server = follower 3 (adds 2 5 ∷ []);
  sent = message 2 1 3 (VoteReply 3 false) ∷ [];
})

-- Of two logs with the same last term the shorter one's candidate is denied.
abbrev pub LongerVoterDenies : Type 0
LongerVoterDenies = step tally_spec 3 2 (follower 2 (adds 2 5 ∷ adds 2 6 ∷ [])) (Arrives (message 1 2 3 (VoteRequest 1 2))) ≡ Ok (record {
  server = follower 3 (adds 2 5 ∷ adds 2 6 ∷ []);
  sent = message 2 1 3 (VoteReply 3 false) ∷ [];
})

-- A vote outlasts a crash: the other candidate of the term is denied.
abbrev pub VoteOutlastsCrash : Type 0
VoteOutlastsCrash = step tally_spec 3 1
    (after_inputs 3 1 newcomer (Arrives (message 0 1 1 (VoteRequest 0 0)) ∷ Crash ∷ Restart ∷ []))
    (Arrives (message 2 1 1 (VoteRequest 0 0))) ≡ Ok (record {
      server = record { term = 1; vote = Some 0; log = []; covered = 0; commit = 0; known = None; mode = Follower };
      sent = message 1 2 1 (VoteReply 1 false) ∷ [];
    })

-- Of five servers two votes do not win, even if one of them comes twice.
abbrev pub TwoVotesOfFive : Type 0
TwoVotesOfFive = (after_inputs 5 0 newcomer (Timeout ∷ Arrives (message 1 0 1 (VoteReply 1 true)) ∷ Arrives (message 1 0 1 (VoteReply 1 true)) ∷ [])).mode
    ≡ Candidate (true ∷ true ∷ false ∷ false ∷ false ∷ [])

-- Three do, and the new leader appends a no-op of its term.
abbrev pub ThreeVotesOfFive : Type 0
ThreeVotesOfFive = after_inputs 5 0 newcomer (Timeout ∷ Arrives (message 1 0 1 (VoteReply 1 true)) ∷ Arrives (message 2 0 1 (VoteReply 1 true)) ∷ []) ≡ record {
  term = 1;
  vote = Some 0;
  log = begins 1 ∷ [];
  covered = 0;
  commit = 0;
  known = None;
  mode = Leader (1 ∷ 1 ∷ 1 ∷ 1 ∷ 1 ∷ []) (0 ∷ 0 ∷ 0 ∷ 0 ∷ 0 ∷ []);
}

-- A grant that answers an earlier term does not count.
abbrev pub LateVote : Type 0
LateVote = (after_inputs 3 0 newcomer (Timeout ∷ Timeout ∷ Arrives (message 1 0 1 (VoteReply 1 true)) ∷ [])).mode ≡ Candidate (true ∷ false ∷ false ∷ [])

-- In the greatest term there is no further election.
abbrev pub LastTerm : Type 0
LastTerm = step tally_spec 3 0 (follower MAX []) Timeout ≡ Err refusals.Exhausted
