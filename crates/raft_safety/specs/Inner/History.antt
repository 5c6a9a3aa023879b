-- The history of a run: what each server may have promised, and what each leader has written.
use Rattle.std.specs.Prelude.{ℕ, ◌≤◌, ◌<◌, ◌≡◌, ◌≢◌, ◌⊎◌, Option, Some, None, List, length, ◌&&◌, nat_le, nat_lt}
use Rattle.machine_model.specs.declared.entry.Entry.{Entry}
use Rattle.raft_model.specs.Logs.{term_at}
use Rattle.raft_model.specs.Quorums.{Quorum}
use Rattle.raft_model.specs.Chains.{Agree}
use Rattle.raft_safety.specs.Inner.Agreement.{Rooted}
use Rattle.raft_safety.specs.Inner.Ballots.{Ballots, Elected, BallotsGrow, BallotsApart}

-- ballots: terms and votes. stood: the log with which a server stood in a term. leader: who won a
-- term. ledger: the log of a term's leader, as far as it got while it led. held: the greatest index
-- that a server acknowledged in a term.
pub record History (C : Type 0) : Type 0 where
  pub ballots : Ballots
  pub stood : ℕ → ℕ → Option (List (Entry C))
  pub leader : ℕ → Option ℕ
  pub ledger : ℕ → List (Entry C)
  pub held : ℕ → ℕ → ℕ

module _ {C : Type 0} where
  -- if index k of term u exists, its entry is of term u
  abbrev pub OfOwnTerm : History C → ℕ → ℕ → Type 0
  OfOwnTerm G u k = k ≤ length (G.ledger u) → term_at (G.ledger u) k ≡ u

  -- a quorum can't acknowledge k in term u any more
  abbrev pub Dead : ℕ → History C → ℕ → ℕ → Type 0
  Dead n G u k = Quorum n (λ i. nat_lt u (G.ballots.term i) && nat_lt (G.held u i) k)

  -- a quorum acknowledged index k of term u, whose entry is of that term
  pub record Chosen (n : ℕ) (G : History C) (u k : ℕ) : Type 0 where
    pub one : 1 ≤ k
    pub there : k ≤ length (G.ledger u)
    pub own : term_at (G.ledger u) k ≡ u
    pub quorum : Quorum n (λ i. nat_le k (G.held u i))

  -- X has what index k of term u stands for, or it can't be chosen any more
  abbrev pub HasOrDead : ℕ → History C → ℕ → ℕ → List (Entry C) → Type 0
  HasOrDead n G u k X = OfOwnTerm G u k → Dead n G u k ⊎ Agree k (G.ledger u) X

  -- the first k of X are those of a ledger, below an index that was chosen in a term up to v
  pub record FixedBy (n : ℕ) (G : History C) (v k : ℕ) (X : List (Entry C)) : Type 0 where
    pub term : ℕ
    pub index : ℕ
    pub early : term ≤ v
    pub reach : k ≤ index
    pub chosen : Chosen n G term index
    pub agree : Agree k X (G.ledger term)

  -- the first k of X are committed by a term up to v
  abbrev pub Fixed : ℕ → History C → ℕ → ℕ → List (Entry C) → Type 0
  Fixed n G v k X = (k ≡ 0) ⊎ FixedBy n G v k X

  -- what i had acknowledged before it voted in t is in L
  pub record CarriesHeld (n : ℕ) (G : History C) (t i : ℕ) (L : List (Entry C)) : Type 0 where
    pub late : t ≤ G.ballots.term i
    pub carries : (u k : ℕ) → u < t → 1 ≤ k → k ≤ G.held u i → HasOrDead n G u k L

  -- what holds of the history alone
  pub record Ledgers (n : ℕ) (G : History C) : Type 0 where
    pub terms : (t p : ℕ) → 1 ≤ p → p ≤ length (G.ledger t) → term_at (G.ledger t) p ≤ t
    pub rooted : (t : ℕ) → Rooted G.ledger (G.ledger t)
    pub unled : (t : ℕ) → G.leader t ≡ None → length (G.ledger t) ≡ 0
    pub led : (t c : ℕ) → G.leader t ≡ Some c → 1 ≤ length (G.ledger t)
    pub elected : (t c : ℕ) → G.leader t ≡ Some c → Elected n G.ballots t c
    pub late : (t c : ℕ) → G.leader t ≡ Some c → t ≤ G.ballots.term c
    pub carries : (t u k : ℕ) → 1 ≤ length (G.ledger t) → u < t → 1 ≤ k → HasOrDead n G u k (G.ledger t)
    pub reaches : (u i : ℕ) → G.held u i ≤ length (G.ledger u)
    pub stands : (t c : ℕ) (L : List (Entry C)) → G.stood t c ≡ Some L → Rooted G.ledger L

  -- the log L of a candidate is up to date for a voter with this log
  abbrev pub UpToDate : List (Entry C) → List (Entry C) → Type 0
  UpToDate L log = (term_at log (length log) < term_at L (length L)) ⊎ ((term_at log (length log) ≡ term_at L (length L)) × (length log ≤ length L))

  -- nothing promised or written is taken back
  pub record Extends (G H : History C) : Type 0 where
    pub ballots : BallotsGrow G.ballots H.ballots
    pub ledgers : (t : ℕ) → Agree (length (G.ledger t)) (G.ledger t) (H.ledger t)
    pub held : (u i : ℕ) → G.held u i ≤ H.held u i
    pub left : (u i : ℕ) → u < G.ballots.term i → H.held u i ≡ G.held u i
    pub stood : (t c : ℕ) (L : List (Entry C)) → G.stood t c ≡ Some L → H.stood t c ≡ Some L
    pub leaders : (t c : ℕ) → G.leader t ≡ Some c → H.leader t ≡ Some c

  -- only server i's part differs
  pub record DiffersAt (i : ℕ) (G H : History C) : Type 0 where
    pub ballots : BallotsApart i G.ballots H.ballots
    pub stood : (j t : ℕ) → j ≢ i → H.stood t j ≡ G.stood t j
    pub held : (j u : ℕ) → j ≢ i → H.held u j ≡ G.held u j
    pub leaders : (j t : ℕ) → j ≢ i → H.leader t ≡ Some j → G.leader t ≡ Some j
    pub ledgers : (j t : ℕ) → j ≢ i → G.leader t ≡ Some j → H.ledger t ≡ G.ledger t
