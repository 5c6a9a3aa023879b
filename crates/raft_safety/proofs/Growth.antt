-- What survives when the history grows.
use Rattle.std.proofs.Common.{ℕ, ◌<◌, ◌≤◌, List, length, sym, ap, ◌∙◌, arith, inl, inr, Bool, ◌&&◌, true≢false, nat_le, nat_lt, not, IsTrue}
use Rattle.std.proofs.lemmas.Bool.{and_from, and_parts, leb-true, ltb-true, le-leb, lt-ltb}
use Rattle.std.proofs.lemmas.Bool.Decides.{leb_tells}
use Rattle.machine_model.specs.declared.entry.Entry.{Entry}
use Rattle.raft_model.specs.Quorums.{Quorum}
use Rattle.raft_model.specs.Chains.{Agree}
use Rattle.raft_safety.specs.Inner.Agreement.{Adopted}
use Rattle.raft_safety.specs.Inner.History.{History, OfOwnTerm, Dead, Chosen, HasOrDead, Fixed, Ledgers, Extends}
use Rattle.raft_safety.proofs.Quorums.{quorum_more, find}
use Rattle.raft_safety.proofs.Logs.{agree_sym, agree_trans, agree_less, agree_term}

module _ {C : Type 0} where
  -- a first part of a ledger
  pub agree_on : (G H : History C) (u k : ℕ) (X : List (Entry C)) → Extends G H → Agree k (G.ledger u) X → Agree k (H.ledger u) X
  agree_on G H u k X e a = agree_trans (agree_sym (agree_less k a.left (e.ledgers u))) a

  -- the term of an entry that the longer ledger has
  pub own_back : (G H : History C) (u k : ℕ) → Extends G H → 1 ≤ k → OfOwnTerm H u k → OfOwnTerm G u k
  own_back G H u k e one own le =
      let g = e.ledgers u in
      agree_term (length (G.ledger u)) k (G.ledger u) (H.ledger u) g one le ∙ own (omega (arith, le, g.right))

  -- what is dead stays dead: who left a term acknowledges nothing in it
  pub dead_on : (n : ℕ) (G H : History C) (u k : ℕ) → Extends G H → Dead n G u k → Dead n H u k
  dead_on n G H u k e d = quorum_more n (λ i. nat_lt u (G.ballots.term i) && nat_lt (G.held u i) k) (λ i. nat_lt u (H.ballots.term i) && nat_lt (H.held u i) k)
      (λ i le h.
      let a : u < G.ballots.term i = ltb-true u (G.ballots.term i) (and_parts (nat_lt u (G.ballots.term i)) (nat_lt (G.held u i) k) h).0 in
      let b : G.held u i < k = ltb-true (G.held u i) k (and_parts (nat_lt u (G.ballots.term i)) (nat_lt (G.held u i) k) h).1 in
      and_from (nat_lt u (H.ballots.term i)) (nat_lt (H.held u i) k) (lt-ltb u (H.ballots.term i) (omega (arith, a, e.ballots.terms i))) (lt-ltb (H.held u i) k (omega (arith, b, e.left u i a))))
      d

  -- what is chosen stays chosen
  pub chosen_on : (n : ℕ) (G H : History C) (u k : ℕ) → Extends G H → Chosen n G u k → Chosen n H u k
  chosen_on n G H u k e c =
      let g = e.ledgers u in
      record {
        one = c.one;
        there = omega (arith, c.there, g.right);
        own = sym (agree_term (length (G.ledger u)) k (G.ledger u) (H.ledger u) g c.one c.there) ∙ c.own;
        quorum = quorum_more n (λ i. nat_le k (G.held u i)) (λ i. nat_le k (H.held u i)) (λ i le h. le-leb k (H.held u i) (omega (arith, leb-true k (G.held u i) h, e.held u i))) c.quorum;
      }

  -- a list that carries an index goes on to
  pub carries_on : (n : ℕ) (G H : History C) (u k : ℕ) (X : List (Entry C)) → Extends G H → 1 ≤ k → HasOrDead n G u k X → HasOrDead n H u k X
  carries_on n G H u k X e one c own = elim (c (own_back G H u k e one own)) [
    | inl d ↦ inl (dead_on n G H u k e d)
    | inr a ↦ inr (agree_on G H u k X e a)
  ]

  -- so does a longer one
  pub carries_grow : (n : ℕ) (G : History C) (u k : ℕ) (X Y : List (Entry C)) → Agree (length X) X Y → HasOrDead n G u k X → HasOrDead n G u k Y
  carries_grow n G u k X Y g c own = elim (c own) [
    | inl d ↦ inl d
    | inr a ↦ inr (agree_trans a (agree_less k a.right g))
  ]

  -- what is fixed stays fixed
  pub fixed_on : (n : ℕ) (G H : History C) (v k : ℕ) (X : List (Entry C)) → Extends G H → Fixed n G v k X → Fixed n H v k X
  fixed_on n G H v k X e (inl z) = inl z
  fixed_on n G H v k X e (inr f) = inr (record {
    term = f.term;
    index = f.index;
    early = f.early;
    reach = f.reach;
    chosen = chosen_on n G H f.term f.index e f.chosen;
    agree = agree_sym (agree_on G H f.term k X e (agree_sym f.agree));
  })

  -- an accepted Append or Install of a leader of v keeps what was acknowledged in an earlier term
  pub adopted_carries : (n : ℕ) (G : History C) (u v k m : ℕ) (log new : List (Entry C)) → Ledgers n G → u < v → 1 ≤ k → 1 ≤ length (G.ledger v) → Adopted (G.ledger v) log new m → HasOrDead n G u k log → HasOrDead n G u k new
  adopted_carries n G u v k m log new I less one some ad c own = elim (c own) [
    | inl d ↦ inl d
    | inr a ↦ elim (I.carries v u k some less one own) [
      | inl d ↦ inl d
      | inr b ↦ inr (agree_trans b (ad.kept k (agree_trans (agree_sym b) a)))
    ]
  ]

  -- the win: a quorum that voted in t has carried to the log all that it acknowledged before, or
  -- acknowledges it no more
  pub win_carries : (n : ℕ) (G : History C) (t : ℕ) (votes : ℕ → Bool) (log : List (Entry C)) → Quorum n votes → ((i : ℕ) → i < n → IsTrue (votes i) → t ≤ G.ballots.term i) → ((i u k : ℕ) → i < n → IsTrue (votes i) → u < t → 1 ≤ k → k ≤ G.held u i → HasOrDead n G u k log) → (u k : ℕ) → u < t → 1 ≤ k → HasOrDead n G u k log
  win_carries n G t votes log q late voted u k less one own =
      elim (find n votes (λ i. nat_le k (G.held u i))) [
        | inl x ↦ voted x.0 u k x.1 x.2 less one (leb-true k (G.held u x.0) x.3) own
        | inr r ↦ inl (quorum_more n votes (λ i. nat_lt u (G.ballots.term i) && nat_lt (G.held u i) k)
            (λ i le h. and_from (nat_lt u (G.ballots.term i)) (nat_lt (G.held u i) k)
            (lt-ltb u (G.ballots.term i) (omega (arith, less, late i le h)))
            (elim (leb_tells k (G.held u i)) [ inl s ↦ absurd (true≢false (sym (r i le h) ∙ ap not s.0)) | inr s ↦ lt-ltb (G.held u i) k s.1 ]))
            q)
      ]
