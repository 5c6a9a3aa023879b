-- What each server and each message bears out of the history.
use Rattle.std.specs.Prelude.{ℕ, suc, ◌+◌, ◌≤◌, ◌<◌, ◌≡◌, ◌≢◌, ◌⊎◌, Bool, true, false, Some, None, List, length, take, drop, slice_get}
use Rattle.machine_model.specs.declared.entry.Entry.{Entry}
use Rattle.raft_model.specs.Logs.{MAX, term_at, last_term}
use Rattle.raft_model.specs.Quorums.{marked, index_at}
use Rattle.raft_model.specs.Messages.{Message, Body, VoteRequest, VoteReply, Append, AppendReply, Install, InstallReply}
use Rattle.raft_model.specs.Rafts.{Raft, Mode, Down, Follower, Candidate, Leader, is_leader}
use Rattle.raft_safety.specs.Inner.SmallSteps.{WasSent}
use Rattle.raft_model.specs.Chains.{Agree}
use Rattle.raft_safety.specs.Inner.Agreement.{Rooted}
use Rattle.raft_safety.specs.Inner.Ballots.{Voter, VoteBody}
use Rattle.raft_safety.specs.Inner.History.{History, HasOrDead, Fixed, CarriesHeld, Ledgers, Extends, DiffersAt}

module _ {C : Type 0} (n : ℕ) (G : History C) where
  -- the log of server j in this term
  pub record LogOk (j term : ℕ) (log : List (Entry C)) (covered commit : ℕ) : Type 0 where
    pub terms : (p : ℕ) → 1 ≤ p → p ≤ length log → term_at log p ≤ term
    pub rooted : Rooted G.ledger log
    -- what was acknowledged is still there, or can't be chosen any more
    pub holds : (u k : ℕ) → 1 ≤ k → k ≤ G.held u j → HasOrDead n G u k log
    -- what was acknowledged in its own term is there, whatever term its entries have
    pub own : (k : ℕ) → k ≤ G.held term j → Agree k (G.ledger term) log
    pub based : covered ≤ commit
    pub within : commit ≤ length log
    pub fixed : Fixed n G term commit log

  -- a candidate of this term, with the votes that it has
  pub record CandidateOk (j term : ℕ) (log : List (Entry C)) (votes : List Bool) : Type 0 where
    pub stood : G.stood term j ≡ Some log
    pub unled : G.leader term ≢ Some j
    pub index_left : length log < MAX
    pub carried : (i : ℕ) → i < n → marked votes i ≡ true → CarriesHeld n G term i log

  -- the leader of this term, with what it knows of the others
  pub record LeaderOk (j term : ℕ) (log : List (Entry C)) (next match : List ℕ) : Type 0 where
    pub leads : G.leader term ≡ Some j
    pub wrote : log ≡ G.ledger term
    pub whole : G.held term j ≡ length log
    pub matched : (i : ℕ) → i < n → i ≢ j → index_at match i ≤ G.held term i
    pub next_from : (i : ℕ) → i < n → i ≢ j → 1 ≤ index_at next i
    pub next_to : (i : ℕ) → i < n → i ≢ j → index_at next i ≤ suc (length log)

  -- what a server does is borne out by the history
  unfoldable pub ModeOk : ℕ → ℕ → List (Entry C) → Mode → Type 0
  ModeOk j term log Down = Unit {0}
  ModeOk j term log Follower = Unit {0}
  ModeOk j term log (Candidate votes) = CandidateOk j term log votes
  ModeOk j term log (Leader next match) = LeaderOk j term log next match

  -- server j
  pub record ServerOk (j : ℕ) (s : Raft C) : Type 0 where
    pub voter : Voter n G.ballots j s.term s.vote s.mode
    -- nothing was promised for later terms
    pub unstood : (t : ℕ) → s.term < t → G.stood t j ≡ None
    pub unheld : (t : ℕ) → s.term < t → G.held t j ≡ 0
    pub log : LogOk j s.term s.log s.covered s.commit
    pub role : ModeOk j s.term s.log s.mode

  -- a request for votes has the end of the log with which its sender stood
  pub record RequestOk (from term index its_last : ℕ) : Type 0 where
    pub log : List (Entry C)
    pub stood : G.stood term from ≡ Some log
    pub index_is : index ≡ length log
    pub last_is : its_last ≡ last_term log

  -- who granted a vote has what it acknowledged before in the log of the candidate
  pub record GrantOk (from to asked : ℕ) : Type 0 where
    pub log : List (Entry C)
    pub stood : G.stood asked to ≡ Some log
    pub carried : CarriesHeld n G asked from log

  -- an Append is a part of its term's ledger, and its commit index is fixed
  pub record AppendOk (term prev prev_term commit : ℕ) (entries : List (Entry C)) : Type 0 where
    pub led : 1 ≤ length (G.ledger term)
    pub reach : prev + length entries ≤ length (G.ledger term)
    pub part : entries ≡ take (length entries) (drop prev (G.ledger term))
    pub before : prev_term ≡ term_at (G.ledger term) prev
    pub fixed : Fixed n G term commit (G.ledger term)

  -- an Install is the first part of its term's ledger, and fixed
  pub record InstallOk (term : ℕ) (P : List (Entry C)) : Type 0 where
    pub led : 1 ≤ length (G.ledger term)
    pub part : Agree (length P) P (G.ledger term)
    pub fixed : Fixed n G term (length P) (G.ledger term)

  -- what a message says of logs is so
  unfoldable pub BodyOk : ℕ → ℕ → ℕ → Body C → Type 0
  BodyOk from to term (VoteRequest index its_last) = RequestOk from term index its_last
  BodyOk from to term (VoteReply asked true) = GrantOk from to asked
  BodyOk from to term (VoteReply asked false) = Unit {0}
  BodyOk from to term (Append prev prev_term commit entries) = AppendOk term prev prev_term commit entries
  BodyOk from to term (AppendReply asked true at) = at ≤ G.held asked from
  BodyOk from to term (AppendReply asked false at) = Unit {0}
  BodyOk from to term (Install P) = InstallOk term P
  BodyOk from to term (InstallReply asked at) = at ≤ G.held asked from

  -- a message
  pub record MessageOk (x : Message C) : Type 0 where
    pub vote : VoteBody G.ballots x.from x.to x.body
    pub body : BodyOk x.from x.to x.term x.body

  -- all messages
  abbrev pub SentOk : List (Message C) → Type 0
  SentOk sent = (x : Message C) → WasSent sent x → MessageOk x

-- the history after a step of server i, which is t then and has said `out`; P is what each ledger
-- keeps besides
pub record KeepsHistory {C : Type 0} (P : List (Entry C) → Type 0) (n : ℕ) (G : History C) (i : ℕ) (t : Raft C) (out : List (Message C)) : Type 0 where
  pub after : History C
  pub extends : Extends G after
  pub apart : DiffersAt i G after
  pub ledgers : Ledgers n after
  pub own : ServerOk n after i t
  pub says : (k : ℕ) (x : Message C) → slice_get out k ≡ Some x → MessageOk n after x
  pub sound : ((u : ℕ) → P (G.ledger u)) → (u : ℕ) → P (after.ledger u)
  -- a ledger grows only under its leader
  pub writes : (u : ℕ) → (after.ledger u ≡ G.ledger u) ⊎ ((t.term ≡ u) × (is_leader t.mode ≡ true))
