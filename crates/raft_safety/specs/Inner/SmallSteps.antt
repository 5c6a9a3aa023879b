-- Each event is a few small steps of one server in a row. What a run keeps is proved for each of
-- these.
use Rattle.std.specs.Prelude.{◌≡◌, ℕ, ◌+◌, ◌<◌, Bool, true, false, Some, None, List, [], ◌∷◌, length, slice_get, slice_set}
use Rattle.machine_model.specs.MachineSpec.{MachineSpec, IsCommandOf}
use Rattle.machine_model.specs.declared.entry.Entry.{Entry}
use Rattle.raft_model.specs.Logs.{MAX}
use Rattle.raft_model.specs.Quorums.{is_quorum, marked}
use Rattle.raft_model.specs.Messages.{Message, Body, VoteRequest, VoteReply, Append, AppendReply, Install, InstallReply, to_others}
use Rattle.raft_model.specs.Rafts.{Raft, Mode, Down, Follower, Candidate, Leader, is_up, is_leader, election_started, vote_request_to, is_free_for, is_up_to_date, won, following, is_held, appended, installed, match_raised, backed_off, is_chosen, greatest, beat_message, compacted, extended}
use Rattle.raft_model.specs.Steps.{admission_refusal}

-- replies that refuse: they promise nothing
abbrev pub OwesNothing : {C : Type 0} → Body C → Type 0
OwesNothing (VoteRequest index term) = ⊥
OwesNothing (VoteReply asked true) = ⊥
OwesNothing (VoteReply asked false) = Unit {0}
OwesNothing (Append prev prev_term commit entries) = ⊥
OwesNothing (AppendReply asked true at) = ⊥
OwesNothing (AppendReply asked false at) = Unit {0}
OwesNothing (Install covered) = ⊥
OwesNothing (InstallReply asked at) = at ≡ 0

-- replies that say that the log is held up to `at`
abbrev pub IsAck : {C : Type 0} → Body C → ℕ → ℕ → Type 0
IsAck (VoteRequest index term) asked at = ⊥
IsAck (VoteReply answered granted) asked at = ⊥
IsAck (Append prev prev_term commit entries) asked at = ⊥
IsAck (AppendReply answered true index) asked at = (answered ≡ asked) × (index ≡ at)
IsAck (AppendReply answered false index) asked at = ⊥
IsAck (Install covered) asked at = ⊥
IsAck (InstallReply answered index) asked at = (answered ≡ asked) × (index ≡ at)

-- modes in which nothing volatile is known
abbrev pub KnowsNothing : Mode → Type 0
KnowsNothing Down = Unit {0}
KnowsNothing Follower = Unit {0}
KnowsNothing (Candidate votes) = ⊥
KnowsNothing (Leader next match) = ⊥

-- who leads after these small steps led before them, in the same term and with the same log
abbrev pub LedBefore : {C : Type 0} → Raft C → Raft C → Type 0
LedBefore s r = is_leader r.mode ≡ true → (is_leader s.mode ≡ true) × (r.term ≡ s.term) × (r.log ≡ s.log)

-- a message that was sent
abbrev pub WasSent : {C : Type 0} → List (Message C) → Message C → Type 0
WasSent sent message = (k : ℕ) × (slice_get sent k ≡ Some message)

module _ {S C : Type 0} (m : MachineSpec S C) (n i : ℕ) (sent : List (Message C)) where
  -- server i goes from s to t, and says `out`
  pub data Small (s t : Raft C) (out : List (Message C)) : Type 0 where
    -- a message of a greater term
    raises : (message : Message C) → WasSent sent message → s.term < message.term → t ≡ record s { term = message.term; vote = None; known = None; mode = Follower } → out ≡ [] → Small s t out
    -- a timeout
    stands : s.term < MAX → length s.log < MAX → t ≡ election_started n i s → out ≡ to_others i (vote_request_to i (election_started n i s)) n → Small s t out
    -- a vote that is free, for a candidate that is up to date
    grants_vote : (from index its_last : ℕ) → WasSent sent (record { from = from; to = i; term = s.term; body = VoteRequest index its_last }) →
        is_free_for s.vote from ≡ true → is_up_to_date s.log index its_last ≡ true → t ≡ record s { vote = Some from } →
        out ≡ record { from = i; to = from; term = s.term; body = VoteReply s.term true } ∷ [] → Small s t out
    -- an answer that owes nothing
    refuses : (from term : ℕ) (request answer : Body C) → WasSent sent (record { from = from; to = i; term = term; body = request }) → OwesNothing answer →
        t ≡ s → out ≡ record { from = i; to = from; term = s.term; body = answer } ∷ [] → Small s t out
    -- a vote that came
    counts : (votes : List Bool) (from term : ℕ) → from < n → WasSent sent (record { from = from; to = i; term = term; body = VoteReply s.term true }) →
        s.mode ≡ Candidate votes → t ≡ record s { mode = Candidate (slice_set votes from true) } → out ≡ [] → Small s t out
    -- a quorum's votes
    wins : (votes : List Bool) → s.mode ≡ Candidate votes → is_quorum n (marked votes) ≡ true → t ≡ won m.noop n s → out ≡ [] → Small s t out
    -- a proposal that is admitted
    extends : (next match : List ℕ) (command : C) → IsCommandOf m command → s.mode ≡ Leader next match → admission_refusal m s command ≡ None → t ≡ extended s command → out ≡ [] → Small s t out
    -- a message of the leader of its term
    follows : (from : ℕ) → t ≡ following s from → out ≡ [] → Small s t out
    -- entries that begin where the log is held
    takes_append : (from prev prev_term commit : ℕ) (entries : List (Entry C)) →
        WasSent sent (record { from = from; to = i; term = s.term; body = Append prev prev_term commit entries }) → s.mode ≡ Follower →
        is_held s prev prev_term ≡ true → t ≡ appended s prev commit entries →
        out ≡ record { from = i; to = from; term = s.term; body = AppendReply s.term true (prev + length entries) } ∷ [] → Small s t out
    -- a snapshot
    takes_install : (from : ℕ) (P : List (Entry C)) → WasSent sent (record { from = from; to = i; term = s.term; body = Install P }) → s.mode ≡ Follower →
        t ≡ installed s P → out ≡ record { from = i; to = from; term = (installed s P).term; body = InstallReply s.term (length P) } ∷ [] → Small s t out
    -- an ok that came
    acks : (next match : List ℕ) (from term at : ℕ) (body : Body C) → WasSent sent (record { from = from; to = i; term = term; body = body }) → IsAck body s.term at →
        s.mode ≡ Leader next match → t ≡ match_raised s from at next match → out ≡ [] → Small s t out
    -- a refusal that came
    backs : (next match : List ℕ) (from at : ℕ) → s.mode ≡ Leader next match → t ≡ backed_off s from at next match → out ≡ [] → Small s t out
    -- the commit rule
    advances : (next match : List ℕ) → s.mode ≡ Leader next match →
        t ≡ record s { commit = greatest (is_chosen n i s match) s.commit (length s.log) } → out ≡ [] → Small s t out
    -- a compaction
    covers : t ≡ compacted s → out ≡ [] → Small s t out
    -- a beat
    beats_all : (next match : List ℕ) → s.mode ≡ Leader next match → t ≡ s → out ≡ to_others i (beat_message i s next) n → Small s t out

  -- small steps in a row, of which the last one speaks and writes
  pub data Path : Raft C → Raft C → List (Message C) → Type 0 where
    -- nothing
    still : {s t : Raft C} {out : List (Message C)} → t ≡ s → out ≡ [] → Path s t out
    -- the last small step
    only : {s t : Raft C} {out : List (Message C)} → Small s t out → Path s t out
    -- one before others
    after_one : {s t : Raft C} {out : List (Message C)} (r : Raft C) → Small s r [] → LedBefore s r → Path r t out → Path s t out

  -- a server that is up goes a path; or it crashes, or restarts
  pub data Turns (s t : Raft C) (out : List (Message C)) : Type 0 where
    walks : is_up s.mode ≡ true → Path s t out → Turns s t out
    resets : (mode : Mode) → KnowsNothing mode → (is_up mode ≡ true → is_up s.mode ≡ false) → t ≡ record s { commit = s.covered; known = None; mode = mode } → out ≡ [] → Turns s t out
