-- Leader completeness: at a vote, and for what is committed.
use Rattle.std.proofs.Common.{ℕ, suc, ◌<◌, ◌≤◌, ◌≡◌, ◌⊎◌, List, [], ◌∷◌, length, sym, ◌∙◌, subst, arith, inl, inr, ◌&&◌, nat_le, nat_lt}
use Rattle.std.proofs.lemmas.Bool.{and_parts, leb-true, ltb-true}
use Rattle.std.proofs.lemmas.Bool.Decides.{leb_tells}
use Rattle.machine_model.specs.declared.entry.Entry.{Entry}
use Rattle.raft_model.specs.Logs.{term_at}
use Rattle.raft_model.specs.Chains.{Agree}
use Rattle.raft_safety.specs.Inner.Agreement.{Rooted}
use Rattle.raft_safety.specs.Inner.History.{History, OfOwnTerm, Dead, Chosen, HasOrDead, FixedBy, Fixed, Ledgers, UpToDate}
use Rattle.raft_safety.proofs.Quorums.{meet}
use Rattle.raft_safety.proofs.Logs.{agree_none, agree_sym, agree_trans, agree_less, agree_term, rooted_at}

module _ {C : Type 0} where
  -- a log that ends in a term above 0 has an entry
  some_entry : (L : List (Entry C)) → 0 < term_at L (length L) → 1 ≤ length L
  unfolding term_at
  some_entry [] h = absurd (omega (arith, h))
  some_entry (e ∷ L) h = omega arith

  -- the candidate's last term is greater than u
  later : (n : ℕ) (G : History C) (L : List (Entry C)) (u k : ℕ) → Ledgers n G → Rooted G.ledger L → 1 ≤ k → OfOwnTerm G u k → u < term_at L (length L) → Dead n G u k ⊎ Agree k (G.ledger u) L
  later n G L u k I rL one own less =
      let b = length L in
      let y = term_at L b in
      let some : 1 ≤ b = some_entry L (omega (arith, less)) in
      let root : Agree b L (G.ledger y) = rooted_at G.ledger L b rL some (omega arith) in
      elim (I.carries y u k (omega (arith, some, root.right)) less one own) [
        | inl d ↦ inl d
        | inr g ↦ inr (elim (leb_tells k b) [
          | inl t ↦ agree_trans g (agree_less k t.1 (agree_sym root))
          | inr t ↦
              let at : term_at (G.ledger u) b ≡ y = agree_term k b (G.ledger u) (G.ledger y) g some (omega (arith, t.1)) ∙ sym (agree_term b b L (G.ledger y) root some (omega arith)) in
              absurd (omega (arith, I.terms u b some (omega (arith, t.1, g.left)), at, less))
        ])
      ]

  -- the voter's log carries position k of term u itself
  carried : (n : ℕ) (G : History C) (log L : List (Entry C)) (u k : ℕ) → Ledgers n G → Rooted G.ledger log → Rooted G.ledger L → UpToDate L log → 1 ≤ k → OfOwnTerm G u k → Agree k (G.ledger u) log → Dead n G u k ⊎ Agree k (G.ledger u) L
  carried n G log L u k I rl rL up one own a =
      let q = length log in
      let x = term_at log q in
      let b = length L in
      let y = term_at L b in
      let rootl : Agree q log (G.ledger x) = rooted_at G.ledger log q rl (omega (arith, one, a.right)) (omega arith) in
      let at_k : term_at (G.ledger x) k ≡ u = sym (agree_term q k log (G.ledger x) rootl one a.right) ∙ (sym (agree_term k k (G.ledger u) log a one (omega arith)) ∙ own a.left) in
      let ux : u ≤ x = omega (arith, I.terms x k one (omega (arith, a.right, rootl.right)), at_k) in
      elim (leb_tells (suc u) y) [
        | inl t ↦ later n G L u k I rL one own (omega (arith, t.1))
        | inr t ↦ inr (elim up [
          | inl less ↦ absurd (omega (arith, less, ux, t.1))
          | inr e ↦
              let yu : y ≡ u = omega (arith, e.0, ux, t.1) in
              let root : Agree b L (G.ledger y) = rooted_at G.ledger L b rL (omega (arith, one, a.right, e.1)) (omega arith) in
              agree_sym (agree_less k (omega (arith, a.right, e.1)) (subst (λ t. Agree b L (G.ledger t)) yu root))
        ])
      ]

  -- the vote's comparison: what the voter's log carries, the candidate's does
  pub grant_carries : (n : ℕ) (G : History C) (log L : List (Entry C)) → Ledgers n G → Rooted G.ledger log → Rooted G.ledger L → UpToDate L log → (u k : ℕ) → 1 ≤ k → HasOrDead n G u k log → HasOrDead n G u k L
  grant_carries n G log L I rl rL up u k one c own = elim (c own) [
    | inl d ↦ inl d
    | inr a ↦ carried n G log L u k I rl rL up one own a
  ]

  -- what is chosen is not dead: two quorums meet
  pub chosen_not_dead : (n : ℕ) (G : History C) (u k : ℕ) → Chosen n G u k → Dead n G u k → ⊥
  chosen_not_dead n G u k c d =
      let m = meet n (λ i. nat_le k (G.held u i)) (λ i. nat_lt u (G.ballots.term i) && nat_lt (G.held u i) k) c.quorum d in
      omega (arith, leb-true k (G.held u m.0) m.2, ltb-true (G.held u m.0) k (and_parts (nat_lt u (G.ballots.term m.0)) (nat_lt (G.held u m.0) k) m.3).1)

  -- what is chosen is in each later term's ledger
  in_later : (n : ℕ) (G : History C) (t u j : ℕ) → Ledgers n G → Chosen n G u j → u < t → 1 ≤ length (G.ledger t) → Agree j (G.ledger u) (G.ledger t)
  in_later n G t u j I c less some = elim (I.carries t u j some less c.one (λ h. c.own)) [
    | inl d ↦ absurd (chosen_not_dead n G u j c d)
    | inr g ↦ g
  ]

  -- what is fixed is in each later term's ledger
  fixed_by_in : (n : ℕ) (G : History C) (v t k : ℕ) (X : List (Entry C)) → Ledgers n G → FixedBy n G v k X → v ≤ t → 1 ≤ length (G.ledger t) → Agree k X (G.ledger t)
  fixed_by_in n G v t k X I f le some = elim (leb_tells (suc f.term) t) [
    | inl h ↦ agree_trans f.agree (agree_less k f.reach (in_later n G t f.term f.index I f.chosen (omega (arith, h.1)) some))
    | inr h ↦ let same : f.term ≡ t = omega (arith, f.early, le, h.1) in subst (λ s. Agree k X (G.ledger s)) same f.agree
  ]

  -- leader completeness
  pub fixed_in : (n : ℕ) (G : History C) (v t k : ℕ) (X : List (Entry C)) → Ledgers n G → Fixed n G v k X → v ≤ t → 1 ≤ length (G.ledger t) → Agree k X (G.ledger t)
  fixed_in n G v t k X I (inl z) le some = subst (λ j. Agree j X (G.ledger t)) (sym z) (agree_none X (G.ledger t))
  fixed_in n G v t k X I (inr f) le some = fixed_by_in n G v t k X I f le some

  -- two fixed lists, the one of the earlier term first
  ordered : (n : ℕ) (G : History C) (v w k j m : ℕ) (X Y : List (Entry C)) → Ledgers n G → (f : FixedBy n G v k X) → (g : FixedBy n G w j Y) → f.term ≤ g.term → m ≤ k → m ≤ j → Agree m X Y
  ordered n G v w k j m X Y I f g le mk mj =
      let early : FixedBy n G f.term k X = record { term = f.term; index = f.index; early = omega arith; reach = f.reach; chosen = f.chosen; agree = f.agree } in
      let some : 1 ≤ length (G.ledger g.term) = omega (arith, g.chosen.one, g.chosen.there) in
      agree_trans (agree_less m mk (fixed_by_in n G f.term g.term k X I early le some)) (agree_sym (agree_less m mj g.agree))

  -- two committed lists: one is the beginning of the other
  pub fixed_two : (n : ℕ) (G : History C) (v w k j m : ℕ) (X Y : List (Entry C)) → Ledgers n G → Fixed n G v k X → Fixed n G w j Y → m ≤ k → m ≤ j → Agree m X Y
  fixed_two n G v w k j m X Y I (inl z) b mk mj = subst (λ i. Agree i X Y) (let e : 0 ≡ m = omega (arith, z, mk) in e) (agree_none X Y)
  fixed_two n G v w k j m X Y I (inr f) (inl z) mk mj = subst (λ i. Agree i X Y) (let e : 0 ≡ m = omega (arith, z, mj) in e) (agree_none X Y)
  fixed_two n G v w k j m X Y I (inr f) (inr g) mk mj = elim (leb_tells f.term g.term) [
    | inl h ↦ ordered n G v w k j m X Y I f g h.1 mk mj
    | inr h ↦ agree_sym (ordered n G w v j k m Y X I g f (omega (arith, h.1)) mj mk)
  ]
