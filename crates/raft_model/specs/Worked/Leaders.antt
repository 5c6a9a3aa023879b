-- A leader and its followers: replies, the commit index, proposals.
use Rattle.std.specs.Prelude.{◌≡◌, true, false, Some, None, Ok, Err, [], ◌∷◌}
use Rattle.rows.specs.declared.refusal.Refusal.TheVariants as refusals
use Rattle.machine_model.specs.Tally.{tally_spec}
use Rattle.machine_model.specs.declared.tally.TallyCommand.{TallyCommand}
use Rattle.machine_model.specs.declared.tally.TallyCommand.TheVariants.{Add}
use Rattle.raft_model.specs.Messages.{Append, AppendReply, Install}
use Rattle.raft_model.specs.Rafts.{Raft, Down, Follower, Leader}
use Rattle.raft_model.specs.Steps.{Arrives, Timeout, Beat, Propose, Crash, Restart, step}
use Rattle.raft_model.specs.Worked.Words.{adds, message, after_inputs}

-- the leader of term 2, server 0 of three, with two entries of term 1
abbrev pub leader : Raft TallyCommand
leader = record {
  term = 2;
  vote = Some 0;
  log = adds 1 7 ∷ adds 1 8 ∷ [];
  covered = 1;
  commit = 1;
  known = None;
  mode = Leader (3 ∷ 3 ∷ 1 ∷ []) (0 ∷ 0 ∷ 0 ∷ []);
}

-- Beat: to server 1 an empty Append, to server 2, which lacks what the snapshot covers, an Install.
abbrev pub LeaderBeats : Type 0
LeaderBeats = step tally_spec 3 0 leader Beat ≡ Ok (record {
  server = leader;
  sent = message 0 1 2 (Append 2 1 1 []) ∷ message 0 2 2 (Install (adds 1 7 ∷ [])) ∷ [];
})

-- An entry of an older term is not committed by counting its copies.
abbrev pub OlderTerm : Type 0
OlderTerm = after_inputs 3 0 leader (Arrives (message 1 0 2 (AppendReply 2 true 2)) ∷ []) ≡ record leader { mode = Leader (3 ∷ 3 ∷ 1 ∷ []) (0 ∷ 2 ∷ 0 ∷ []) }

-- One of the leader's own term is, and those before it with it.
abbrev pub OwnTerm : Type 0
OwnTerm = (after_inputs 3 0 leader (Propose (Add 5) ∷ Arrives (message 1 0 2 (AppendReply 2 true 3)) ∷ [])).commit ≡ 3

-- An ok past the last index changes nothing.
abbrev pub PastLast : Type 0
PastLast = after_inputs 3 0 leader (Arrives (message 1 0 2 (AppendReply 2 true 3)) ∷ []) ≡ leader

-- Nor does one that answers another term.
abbrev pub OtherTerm : Type 0
OtherTerm = after_inputs 3 0 leader (Arrives (message 1 0 2 (AppendReply 1 true 2)) ∷ []) ≡ leader

-- A refusal moves next back, by one at least.
abbrev pub NextGoesBack : Type 0
NextGoesBack = after_inputs 3 0 leader (Arrives (message 1 0 2 (AppendReply 2 false 2)) ∷ []) ≡ record leader { mode = Leader (3 ∷ 2 ∷ 1 ∷ []) (0 ∷ 0 ∷ 0 ∷ []) }

-- It never moves next to what is known to be held.
abbrev pub NextStaysPastMatch : Type 0
NextStaysPastMatch = after_inputs 3 0 leader (Arrives (message 1 0 2 (AppendReply 2 true 1)) ∷ Arrives (message 1 0 2 (AppendReply 2 false 0)) ∷ [])
    ≡ record leader { mode = Leader (3 ∷ 2 ∷ 1 ∷ []) (0 ∷ 1 ∷ 0 ∷ []) }

-- A proposal is admitted against the whole log, committed or not.
abbrev pub WholeLog : Type 0
WholeLog = step tally_spec 3 0 (after_inputs 3 0 leader (Propose (Add 985) ∷ [])) (Propose (Add 1)) ≡ Err refusals.OutOfRange

-- A follower refuses proposals, and names the leader that it knows.
abbrev pub NotLeader : Type 0
NotLeader = step tally_spec 3 0 (record leader { mode = Follower; known = Some 2 }) (Propose (Add 1)) ≡ Err (refusals.NotLeader (Some 2))

-- A server that is down refuses all but Restart.
abbrev pub IsDown : Type 0
IsDown = step tally_spec 3 0 (record leader { mode = Down }) Timeout ≡ Err refusals.Down

-- One that is up refuses Restart.
abbrev pub IsUp : Type 0
IsUp = step tally_spec 3 0 leader Restart ≡ Err refusals.OutOfRange

-- After a restart a server begins from what its snapshot covers.
abbrev pub RestartsFromSnapshot : Type 0
RestartsFromSnapshot = after_inputs 3 0 (record leader { commit = 2 }) (Crash ∷ Restart ∷ []) ≡ record leader { commit = 1; mode = Follower }
