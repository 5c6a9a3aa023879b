-- Runs: several servers, one event after the other.
use Rattle.std.specs.Prelude.{◌≡◌, ℕ, true, false, Some, None, Ok, List, [], ◌∷◌, ◌++◌, map, replicate, take}
use Rattle.machine_model.specs.Tally.{tally_spec}
use Rattle.machine_model.specs.declared.entry.Entry.{Entry}
use Rattle.machine_model.specs.declared.tally.TallyCommand.{TallyCommand}
use Rattle.machine_model.specs.declared.tally.TallyCommand.TheVariants.{Add}
use Rattle.raft_model.specs.Messages.{Append, AppendReply}
use Rattle.raft_model.specs.Rafts.{Raft, Follower, Leader}
use Rattle.raft_model.specs.Steps.{Input, Arrives, step}
use Rattle.raft_model.specs.Worlds.{World, first, Deliver, TimesOut, Beats, Proposes, Compacts}
use Rattle.raft_model.specs.Worked.Words.{adds, begins, message, follower, after_inputs, after_events}

-- each server's commit index
abbrev pub commits : World TallyCommand → List ℕ
commits w = map (λ (s : Raft TallyCommand). s.commit) w.servers

-- each server's log
abbrev pub logs : World TallyCommand → List (List (Entry TallyCommand))
logs w = map (λ (s : Raft TallyCommand). s.log) w.servers

-- Three servers elect server 0, which commits its no-op and a proposal; server 2 hears of it at the
-- next beat.
abbrev pub ThreeServersCommit : Type 0
ThreeServersCommit = commits (after_events (first 3)
    (TimesOut 0 ∷ Deliver 0 ∷ Deliver 2 ∷ Proposes 0 (Add 4) ∷ Beats 0 ∷ Deliver 3 ∷ Deliver 5 ∷ Beats 0 ∷ Deliver 7 ∷ [])) ≡ 2 ∷ 0 ∷ 2 ∷ []

-- Server 0 leads with 5 entries, of which it has committed 3 with server 1 and covered them by a
-- snapshot. Server 2 gets the Append of all 5 late, then the Install of 3, and then its ok of 5
-- counts.
abbrev pub late_append_then_install : World TallyCommand
late_append_then_install = after_events (first 3)
    (TimesOut 0 ∷ Deliver 0 ∷ Deliver 2 ∷ Proposes 0 (Add 1) ∷ Proposes 0 (Add 2) ∷ Beats 0 ∷ Proposes 0 (Add 3) ∷ Proposes 0 (Add 4) ∷ Beats 0 ∷
    Deliver 3 ∷ Deliver 7 ∷ Compacts 0 ∷ Beats 0 ∷ Deliver 6 ∷ Deliver 9 ∷ Deliver 10 ∷ [])

-- Entries 4 and 5, which are committed by that ok, are still there.
abbrev pub TailStays : Type 0
TailStays = logs late_append_then_install ≡
    (begins 1 ∷ adds 1 1 ∷ adds 1 2 ∷ adds 1 3 ∷ adds 1 4 ∷ []) ∷
    (begins 1 ∷ adds 1 1 ∷ adds 1 2 ∷ []) ∷
    (begins 1 ∷ adds 1 1 ∷ adds 1 2 ∷ adds 1 3 ∷ adds 1 4 ∷ []) ∷ []

-- The leader has committed all 5; server 2 has what the Install covered; server 1 has heard of no
-- commit yet.
abbrev pub TailCommitted : Type 0
TailCommitted = commits late_append_then_install ≡ 5 ∷ 0 ∷ 3 ∷ []

-- the leader of term 3 with 34 entries, all committed; server 2 holds the first 33, and then
-- another entry
abbrev pub shared : List (Entry TallyCommand)
shared = replicate 33 (adds 1 1)

abbrev pub long_leader : Raft TallyCommand
long_leader = record {
  term = 3;
  vote = Some 0;
  log = shared ++ adds 3 5 ∷ [];
  covered = 0;
  commit = 34;
  known = None;
  mode = Leader (35 ∷ 35 ∷ 35 ∷ []) (0 ∷ 34 ∷ 0 ∷ []);
}

-- server 2's refusal of the Append that follows entry 34
abbrev pub refusal : Input TallyCommand
refusal = Arrives (message 2 0 3 (AppendReply 3 false 33))

-- Delivered twice it moves next below 34, which would do.
abbrev pub RefusalTwice : Type 0
RefusalTwice = (after_inputs 3 0 long_leader (refusal ∷ refusal ∷ [])).mode ≡ Leader (35 ∷ 35 ∷ 33 ∷ []) (0 ∷ 34 ∷ 0 ∷ [])

-- Delivered again and again it moves next to 1.
abbrev pub RefusalOften : Type 0
RefusalOften = (after_inputs 3 0 long_leader (replicate 34 refusal)).mode ≡ Leader (35 ∷ 35 ∷ 1 ∷ []) (0 ∷ 34 ∷ 0 ∷ [])

-- The Append from there reaches 32 entries, all of which agree: commit rises to 32 and not to the
-- leader's 34, since entry 34 differs.
abbrev pub CommitWithinAppend : Type 0
CommitWithinAppend = step tally_spec 3 2 (follower 3 (shared ++ adds 2 6 ∷ [])) (Arrives (message 0 2 3 (Append 0 0 34 (take 32 shared)))) ≡ Ok (record {
  server = record { term = 3; vote = None; log = shared ++ adds 2 6 ∷ []; covered = 0; commit = 32; known = Some 0; mode = Follower };
  sent = message 2 0 3 (AppendReply 3 true 32) ∷ [];
})
