-- Greater and older terms, what was committed before, what comes again, what a server that is down
-- refuses.
use Rattle.std.specs.Prelude.{◌≡◌, true, false, Some, None, Ok, Err, [], ◌∷◌, take}
use Rattle.rows.specs.declared.refusal.Refusal.TheVariants as refusals
use Rattle.machine_model.specs.Tally.{tally_spec}
use Rattle.machine_model.specs.declared.tally.TallyCommand.{TallyCommand}
use Rattle.machine_model.specs.declared.tally.TallyCommand.TheVariants.{Add}
use Rattle.raft_model.specs.Messages.{VoteRequest, VoteReply, Append, AppendReply, Install, InstallReply}
use Rattle.raft_model.specs.Rafts.{Raft, Down, Follower, Candidate, Leader, newcomer, silent}
use Rattle.raft_model.specs.Steps.{Arrives, Timeout, Beat, Propose, Compact, Crash, step}
use Rattle.raft_model.specs.Worked.Words.{adds, message, follower, after_inputs}
use Rattle.raft_model.specs.Worked.Leaders.{leader}
use Rattle.raft_model.specs.Worked.Runs.{shared, long_leader}

-- ---- terms

-- a follower of term 1 that has voted for server 0 and follows it
abbrev pub voted : Raft TallyCommand
voted = record (follower 1 []) { vote = Some 0; known = Some 0 }

-- In a greater term its vote is free again, and it knows no leader.
abbrev pub FreeInNextTerm : Type 0
FreeInNextTerm = step tally_spec 3 1 voted (Arrives (message 2 1 2 (VoteRequest 0 0))) ≡ Ok (record {
  server = record (follower 2 []) { vote = Some 2 };
  sent = message 1 2 2 (VoteReply 2 true) ∷ [];
})

-- The one that has its vote is answered once more.
abbrev pub GrantsAgain : Type 0
GrantsAgain = step tally_spec 3 1 voted (Arrives (message 0 1 1 (VoteRequest 0 0))) ≡ Ok (record {
  server = voted;
  sent = message 1 0 1 (VoteReply 1 true) ∷ [];
})

-- One that asks in a lower term is denied, in that term.
abbrev pub OlderTermDenied : Type 0
OlderTermDenied = step tally_spec 3 1 (follower 2 []) (Arrives (message 2 1 1 (VoteRequest 0 0))) ≡ Ok (record {
  server = follower 2 [];
  sent = message 1 2 2 (VoteReply 1 false) ∷ [];
})

-- Who stands for election knows no leader.
abbrev pub StandsAlone : Type 0
StandsAlone = after_inputs 3 1 voted (Timeout ∷ []) ≡ record (follower 2 []) { vote = Some 1; mode = Candidate (false ∷ true ∷ false ∷ []) }

-- A denial counts for nothing.
abbrev pub DenialIsNone : Type 0
DenialIsNone = (after_inputs 3 0 newcomer (Timeout ∷ Arrives (message 1 0 1 (VoteReply 1 false)) ∷ [])).mode ≡ Candidate (true ∷ false ∷ false ∷ [])

-- A greater term ends a leadership, though its candidate is denied.
abbrev pub StepsDown : Type 0
StepsDown = after_inputs 3 0 leader (Arrives (message 1 0 3 (VoteRequest 0 0)) ∷ []) ≡ record leader { term = 3; vote = None; mode = Follower }

-- An Append of its own term ends a candidacy, and names the leader.
abbrev pub FollowsLeader : Type 0
FollowsLeader = after_inputs 3 0 newcomer (Timeout ∷ Arrives (message 1 0 1 (Append 0 0 0 [])) ∷ [])
    ≡ record (follower 1 []) { vote = Some 0; known = Some 1 }

-- A leader takes no Append and no Install of its own term, and does not stand again.
abbrev pub LeadsOn : Type 0
LeadsOn = after_inputs 3 0 leader (Arrives (message 1 0 2 (Append 0 0 2 [])) ∷ Arrives (message 1 0 2 (Install (adds 2 1 ∷ adds 2 2 ∷ []))) ∷ Timeout ∷ []) ≡ leader

-- ---- a follower's commit index

-- two entries, both committed
abbrev pub both_committed : Raft TallyCommand
both_committed = record (follower 2 (adds 1 7 ∷ adds 1 8 ∷ [])) { commit = 2; known = Some 0 }

-- It never falls.
abbrev pub CommitNeverFalls : Type 0
CommitNeverFalls = step tally_spec 3 2 both_committed (Arrives (message 0 2 2 (Append 2 1 1 []))) ≡ Ok (record {
  server = both_committed;
  sent = message 2 0 2 (AppendReply 2 true 2) ∷ [];
})

-- What stands at or below it counts as held with the right term.
abbrev pub CommittedIsHeld : Type 0
CommittedIsHeld = step tally_spec 3 2 both_committed (Arrives (message 0 2 2 (Append 1 2 0 []))) ≡ Ok (record {
  server = both_committed;
  sent = message 2 0 2 (AppendReply 2 true 1) ∷ [];
})

-- An Install at or below it takes nothing over, and is answered.
abbrev pub InstalledBefore : Type 0
InstalledBefore = step tally_spec 3 2 both_committed (Arrives (message 0 2 2 (Install (adds 1 7 ∷ [])))) ≡ Ok (record {
  server = both_committed;
  sent = message 2 0 2 (InstallReply 2 1) ∷ [];
})

-- One of a lower term is refused with 0.
abbrev pub OlderInstall : Type 0
OlderInstall = step tally_spec 3 2 both_committed (Arrives (message 0 2 1 (Install (adds 1 7 ∷ adds 1 8 ∷ adds 1 9 ∷ [])))) ≡ Ok (record {
  server = both_committed;
  sent = message 2 0 2 (InstallReply 1 0) ∷ [];
})

-- ---- what a leader hears, and sends

-- A late ok of less lowers nothing.
abbrev pub MatchNeverFalls : Type 0
MatchNeverFalls = after_inputs 3 0 leader (Arrives (message 1 0 2 (AppendReply 2 true 2)) ∷ Arrives (message 1 0 2 (AppendReply 2 true 1)) ∷ [])
    ≡ record leader { mode = Leader (3 ∷ 3 ∷ 1 ∷ []) (0 ∷ 2 ∷ 0 ∷ []) }

-- An Install's ok counts as an Append's does; what answers another term counts for nothing.
abbrev pub InstallCounts : Type 0
InstallCounts = after_inputs 3 0 leader (Arrives (message 2 0 2 (InstallReply 2 1)) ∷ []) ≡ record leader { mode = Leader (3 ∷ 3 ∷ 2 ∷ []) (0 ∷ 0 ∷ 1 ∷ []) }

abbrev pub LateAnswers : Type 0
LateAnswers = after_inputs 3 0 leader (Arrives (message 1 0 2 (AppendReply 1 false 0)) ∷ Arrives (message 2 0 2 (InstallReply 1 2)) ∷ []) ≡ leader

-- A message from outside the group is none of its own.
abbrev pub OutsideTheGroup : Type 0
OutsideTheGroup = step tally_spec 3 0 leader (Arrives (message 3 0 2 (AppendReply 2 true 2))) ≡ Err refusals.OutOfRange

-- At most 32 entries go at once.
abbrev pub ThirtyTwoAtOnce : Type 0
ThirtyTwoAtOnce = step tally_spec 3 0 (record long_leader { mode = Leader (35 ∷ 35 ∷ 1 ∷ []) (0 ∷ 34 ∷ 0 ∷ []) }) Beat ≡ Ok (record {
  server = record long_leader { mode = Leader (35 ∷ 35 ∷ 1 ∷ []) (0 ∷ 34 ∷ 0 ∷ []) };
  sent = message 0 1 3 (Append 34 3 34 []) ∷ message 0 2 3 (Append 0 0 34 (take 32 shared)) ∷ [];
})

-- A follower sends nothing at a beat.
abbrev pub FollowerIsSilent : Type 0
FollowerIsSilent = step tally_spec 3 1 voted Beat ≡ Ok (silent voted)

-- ---- snapshots and crashes

-- A snapshot covers what is applied.
abbrev pub CoversTheApplied : Type 0
CoversTheApplied = after_inputs 3 0 (record leader { log = adds 1 7 ∷ adds 1 8 ∷ adds 2 9 ∷ []; commit = 2 }) (Compact ∷ []) ≡ record leader { log = adds 1 7 ∷ adds 1 8 ∷ adds 2 9 ∷ []; commit = 2; covered = 2 }

-- A crash loses the rest; what a restart begins with stands there already.
abbrev pub CrashLosesTheRest : Type 0
CrashLosesTheRest = after_inputs 3 2 both_committed (Crash ∷ []) ≡ record both_committed { commit = 0; known = None; mode = Down }

-- One that is down refuses whatever comes.
abbrev pub down : Raft TallyCommand
down = record (follower 1 []) { mode = Down }

abbrev pub DownTakesNothing : Type 0
DownTakesNothing = step tally_spec 3 1 down (Arrives (message 0 1 2 (VoteRequest 0 0))) ≡ Err refusals.Down

abbrev pub DownBeatsNot : Type 0
DownBeatsNot = step tally_spec 3 1 down Beat ≡ Err refusals.Down

abbrev pub DownTakesNoProposal : Type 0
DownTakesNoProposal = step tally_spec 3 1 down (Propose (Add 1)) ≡ Err refusals.Down

abbrev pub DownCompactsNothing : Type 0
DownCompactsNothing = step tally_spec 3 1 down Compact ≡ Err refusals.Down

abbrev pub DownCrashesNot : Type 0
DownCrashesNot = step tally_spec 3 1 down Crash ≡ Err refusals.Down
