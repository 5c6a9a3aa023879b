-- Servers, and the rules by which an input changes one. (Raft, extended version 2014, Figures 2 and
-- 13.)
use Rattle.std.specs.Prelude.{ℕ, zero, suc, ◌+◌, ◌-◌, max, min, Bool, true, false, ◌&&◌, ◌||◌, ◌==◌, nat_lt, nat_le, if◌then◌else◌, Option, Some, None, List, [], ◌∷◌, ◌++◌, length, take, drop, replicate, slice_set}
use Rattle.machine_model.specs.declared.entry.Entry.{Entry}
use Rattle.raft_model.specs.Logs.{term_at, last_term, has, merge, install}
use Rattle.raft_model.specs.Quorums.{is_quorum, marked, index_at}
use Rattle.raft_model.specs.Messages.{Message, Body, VoteRequest, Append, AppendReply, Install, to_others}

-- What a server is doing: nothing, while it is down; else its role. Lists are by server number:
-- whose vote a candidate has; for each server the index that a leader sends next, and the last one
-- that it is known to hold (nextIndex and matchIndex of Figure 2; a leader's own places in them are
-- never asked).
pub data Mode : Type 0 where
  Down : Mode
  Follower : Mode
  Candidate : (votes : List Bool) → Mode
  Leader : (next match : List ℕ) → Mode

-- Term, vote, log and the number of first entries that the snapshot covers are stored. The rest
-- (commit index, known leader, mode) is lost in a crash: a server that is down has what a restart
-- begins with. All committed entries are applied, so the server's state is that after the first
-- `commit` entries of its log.
pub record Raft (C : Type 0) : Type 0 where
  pub term : ℕ
  pub vote : Option ℕ
  pub log : List (Entry C)
  pub covered : ℕ
  pub commit : ℕ
  pub known : Option ℕ
  pub mode : Mode

-- a server before its first input: up, a follower in term 0 with an empty log
abbrev pub newcomer : {C : Type 0} → Raft C
newcomer = record { term = 0; vote = None; log = []; covered = 0; commit = 0; known = None; mode = Follower }

-- the server is not down
abbrev pub is_up : Mode → Bool
is_up Down = false
is_up Follower = true
is_up (Candidate votes) = true
is_up (Leader next match) = true

-- the server leads the group in its term
abbrev pub is_leader : Mode → Bool
is_leader Down = false
is_leader Follower = false
is_leader (Candidate votes) = false
is_leader (Leader next match) = true

-- a server, and the messages that it sends
pub record RaftTurn (C : Type 0) : Type 0 where
  pub server : Raft C
  pub sent : List (Message C)

-- nothing is sent
abbrev pub silent : {C : Type 0} → Raft C → RaftTurn C
silent s = record { server = s; sent = [] }

-- one message, to the sender of what came
abbrev pub reply : {C : Type 0} → ℕ → Raft C → ℕ → Body C → RaftTurn C
reply me s to body = record { server = s; sent = record { from = me; to = to; term = s.term; body = body } ∷ [] }

-- A greater term makes the receiver a follower of that term, without a vote or a known leader.
-- (Figure 2, all servers.)
abbrev pub term_observed : {C : Type 0} → ℕ → Raft C → Raft C
term_observed term s = if nat_lt s.term term then record s { term = term; vote = None; known = None; mode = Follower } else s

-- Timeout: the server stands in the next term, with its own vote, and knows no leader. (Figure 2,
-- candidates; section 5.2.)
abbrev pub election_started : {C : Type 0} → ℕ → ℕ → Raft C → Raft C
election_started n me s = record s { term = suc s.term; vote = Some me; known = None; mode = Candidate (slice_set (replicate n false) me true) }

-- What it asks each other server: its vote, for a log that ends so.
abbrev pub vote_request_to : {C : Type 0} → ℕ → Raft C → ℕ → Message C
vote_request_to me s to = record { from = me; to = to; term = s.term; body = VoteRequest (length s.log) (last_term s.log) }

-- the vote is none, or c's already
abbrev pub is_free_for : Option ℕ → ℕ → Bool
is_free_for None c = true
is_free_for (Some v) c = v == c

-- a log that ends at this index with this term is no older than `log`: its last term is greater, or
-- the same and it is no shorter (section 5.4.1)
abbrev pub is_up_to_date : {C : Type 0} → List (Entry C) → ℕ → ℕ → Bool
is_up_to_date log index term = nat_lt (last_term log) term || ((last_term log == term) && nat_le (length log) index)

-- A vote is granted in the voter's own term, where it is free or this candidate's already, and the
-- candidate's log is no older. (Figure 2, RequestVote.)
abbrev pub grants : {C : Type 0} → Raft C → ℕ → ℕ → ℕ → ℕ → Bool
grants s from term index its_last = (term == s.term) && (is_free_for s.vote from && is_up_to_date s.log index its_last)

-- the voter, after it granted or denied
abbrev pub granted : {C : Type 0} → Raft C → ℕ → Bool → Raft C
granted s from true = record s { vote = Some from }
granted s from false = s

-- A candidate with a quorum's votes leads: next is past its last entry and match 0 for each server;
-- then it appends a no-op of its term (section 8). It sends nothing yet.
abbrev pub won : {C : Type 0} → C → ℕ → Raft C → Raft C
won noop n s = record s {
  log = s.log ++ record { term = s.term; command = noop } ∷ [];
  mode = Leader (replicate n (suc (length s.log))) (replicate n 0);
}

-- a candidate with these votes: it leads where they are a quorum's
abbrev pub with_votes : {C : Type 0} → C → ℕ → Raft C → List Bool → Raft C
with_votes noop n s votes = if is_quorum n (marked votes) then won noop n s else record s { mode = Candidate votes }

-- a vote of server `from` counts for a candidate, once; in another role it changes nothing
abbrev pub counted : {C : Type 0} → C → ℕ → Raft C → ℕ → Mode → Raft C
counted noop n s from Down = s
counted noop n s from Follower = s
counted noop n s from (Candidate votes) = with_votes noop n s (slice_set votes from true)
counted noop n s from (Leader next match) = s

-- An Append or Install of its own term: the server follows the sender, also where it was a
-- candidate. (Figure 2, candidates.)
abbrev pub following : {C : Type 0} → Raft C → ℕ → Raft C
following s from = record s { known = Some from; mode = Follower }

-- Append: the entry before those that came is held, with its term. What stands at or below commit
-- counts as held with the right term.
abbrev pub is_held : {C : Type 0} → Raft C → ℕ → ℕ → Bool
is_held s prev prev_term = nat_le prev s.commit || has s.log prev prev_term

-- Append, accepted: the log takes up the entries, and commit is the leader's, as far as the message
-- reaches. (Figure 2, receiver 3 to 5.)
abbrev pub appended : {C : Type 0} → Raft C → ℕ → ℕ → List (Entry C) → Raft C
appended s prev commit entries = record s {
  log = merge s.commit prev s.log entries;
  commit = max s.commit (min commit (prev + length entries));
}

-- Append, of a leader of the receiver's own term: accepted, or refused with the place at which to
-- try again (the smaller of prev - 1 and the last index; an Append with prev = 0 is never refused)
abbrev pub follows_append : {C : Type 0} → ℕ → Raft C → ℕ → ℕ → ℕ → ℕ → List (Entry C) → RaftTurn C
follows_append me s from prev prev_term commit entries =
    if is_held s prev prev_term
    then reply me (appended s prev commit entries) from (AppendReply s.term true (prev + length entries))
    else reply me s from (AppendReply s.term false (min (prev - 1) (length s.log)))

-- Install: at or below commit there is nothing to take over; above it log, base and commit are the
-- snapshot's, and what follows it in the log is kept where the log holds its last entry. (Figure
-- 13.)
abbrev pub installed : {C : Type 0} → Raft C → List (Entry C) → Raft C
installed s P =
    if nat_le (length P) s.commit
    then s
    else record s { log = install s.log P; covered = length P; commit = length P }

-- A leader hears that server j holds its log up to `at`. What is past its last entry counts for
-- nothing.
abbrev pub match_raised : {C : Type 0} → Raft C → ℕ → ℕ → List ℕ → List ℕ → Raft C
match_raised s j at next match =
    if nat_le at (length s.log)
    then record s { mode = Leader (slice_set next j (suc (max (index_at match j) at))) (slice_set match j (max (index_at match j) at)) }
    else s

-- A leader hears that server j refuses: it will try one earlier at least, and no earlier than what
-- j is known to hold.
abbrev pub backed_off : {C : Type 0} → Raft C → ℕ → ℕ → List ℕ → List ℕ → Raft C
backed_off s j at next match = record s {
  mode = Leader (slice_set next j (max (suc (index_at match j)) (min (index_at next j - 1) (suc at)))) match;
}

-- The entry at index k is of the leader's term, and a quorum holds it; the leader holds all of its
-- log. (Section 5.4.2.)
abbrev pub is_chosen : {C : Type 0} → ℕ → ℕ → Raft C → List ℕ → ℕ → Bool
is_chosen n me s match k = (term_at s.log k == s.term) && is_quorum n (λ j. (j == me) || nat_le k (index_at match j))

-- the greatest number above `low` and up to `high` that passes the test, or `low` where none does
unfoldable pub greatest : (ℕ → Bool) → ℕ → ℕ → ℕ
greatest test low zero = low
greatest test low (suc high) = if nat_lt low (suc high) && test (suc high) then suc high else greatest test low high

-- a leader's commit rises to the greatest such index; in another role nothing changes
abbrev pub advanced_in : {C : Type 0} → ℕ → ℕ → Raft C → Mode → Raft C
advanced_in n me s Down = s
advanced_in n me s Follower = s
advanced_in n me s (Candidate votes) = s
advanced_in n me s (Leader next match) = record s { commit = greatest (is_chosen n me s match) s.commit (length s.log) }

-- the same, whatever the server is doing
abbrev pub advanced : {C : Type 0} → ℕ → ℕ → Raft C → Raft C
advanced n me s = advanced_in n me s s.mode

-- an ok counts for a leader alone, and commit rises after it
abbrev pub after_append_ok : {C : Type 0} → ℕ → ℕ → Raft C → ℕ → ℕ → Mode → Raft C
after_append_ok n me s j at Down = s
after_append_ok n me s j at Follower = s
after_append_ok n me s j at (Candidate votes) = s
after_append_ok n me s j at (Leader next match) = advanced n me (match_raised s j at next match)

-- so does a refusal
abbrev pub after_append_refusal : {C : Type 0} → ℕ → ℕ → Raft C → ℕ → ℕ → Mode → Raft C
after_append_refusal n me s j at Down = s
after_append_refusal n me s j at Follower = s
after_append_refusal n me s j at (Candidate votes) = s
after_append_refusal n me s j at (Leader next match) = advanced n me (backed_off s j at next match)

-- Beat: what a leader sends to a server whose next index is `next`: all that its snapshot covers,
-- where next is at or below that, else at most 32 entries from next on. (Figure 2, leaders; section
-- 7.)
abbrev pub beat_body : {C : Type 0} → Raft C → ℕ → Body C
beat_body s next =
    if nat_le next s.covered
    then Install (take s.covered s.log)
    else Append (next - 1) (term_at s.log (next - 1)) s.commit (take 32 (drop (next - 1) s.log))

-- the same as a message to that server
abbrev pub beat_message : {C : Type 0} → ℕ → Raft C → List ℕ → ℕ → Message C
beat_message me s next to = record { from = me; to = to; term = s.term; body = beat_body s (index_at next to) }

-- what a server sends at a beat: a leader to each other server, in rising number; others nothing
abbrev pub beats : {C : Type 0} → ℕ → ℕ → Raft C → Mode → List (Message C)
beats n me s Down = []
beats n me s Follower = []
beats n me s (Candidate votes) = []
beats n me s (Leader next match) = to_others me (beat_message me s next) n

-- A crash keeps what is stored.
abbrev pub crashed : {C : Type 0} → Raft C → Raft C
crashed s = record s { commit = s.covered; known = None; mode = Down }

-- A restart makes a follower that knows no leader and has applied what its snapshot covers.
abbrev pub restarted : {C : Type 0} → Raft C → Raft C
restarted s = record s { commit = s.covered; known = None; mode = Follower }

-- Compact: the snapshot covers all that is applied.
abbrev pub compacted : {C : Type 0} → Raft C → Raft C
compacted s = record s { covered = s.commit }

-- a leader's log grows by a command
abbrev pub extended : {C : Type 0} → Raft C → C → Raft C
extended s command = record s { log = s.log ++ record { term = s.term; command = command } ∷ [] }
