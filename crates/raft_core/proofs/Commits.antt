-- The greatest index that is committed.
use Rattle.std.proofs.Common.{◌≡◌, ◌≢◌, ℕ, zero, suc, ◌+◌, ◌-◌, ◌*◌, ◌<◌, ◌≤◌, Bool, true, false, ◌==◌, ◌&&◌, ◌||◌, cond, ltb, leb, eqb, nat_lt, List, length, get_or, refl, sym, ap, subst, ◌∙◌, arith, inl, inr}
use Rattle.std.proofs.Math.Bool.{and-false}
use Rattle.std.proofs.lemmas.Bool.{and_parts, ltb-true, lt-ltb, le-ltb, eqb-true, eqb-false, eq-eqb, ne_eqb}
use Rattle.std.proofs.lemmas.Bool.Decides.{leb_tells, nat_tests}
use Rattle.std.proofs.lemmas.Option.{slice_get-get_or}
use Rattle.machine_model.specs.declared.entry.Entry.{Entry}
use Rattle.raft_model.specs.Logs.{term_at}
use Rattle.raft_model.specs.Quorums.{count, is_quorum, Quorum, index_at, or_else}
use Rattle.raft_model.specs.Rafts.{Raft, Leader, advanced, advanced_in, is_chosen, greatest}
use Rattle.raft_core.specs.Commits.{holds_index, IsGreatest, IsChosen, IsRisen}
use Rattle.raft_core.specs.Inner.Commits.{is_chosen_in}
use Rattle.raft_core.proofs.Quorums.{count-next}

module _ (test : ℕ → Bool) (low : ℕ) where
  greatest-suc : (k : ℕ) (b : Bool) → (nat_lt low (suc k) && test (suc k)) ≡ b → greatest test low (suc k) ≡ cond b (suc k) (greatest test low k)
  unfolding greatest
  greatest-suc k true e = rw e refl
  greatest-suc k false e = rw e refl

  -- at or below `low` there is nothing to find
  pub greatest-none : (k : ℕ) → k ≤ low → greatest test low k ≡ low
  unfolding greatest
  greatest-none zero le = refl
  greatest-none (suc k) le =
      let past : nat_lt low (suc k) ≡ false = le-ltb low (suc k) le in
      greatest-suc k false (rw past refl) ∙ greatest-none k (omega arith)

  -- what does not pass is skipped
  pub greatest-skip : (n k : ℕ) → n ≤ k → ((p : ℕ) → n < p → p ≤ k → test p ≡ false) → greatest test low k ≡ greatest test low n
  greatest-skip n zero le none = let e : n ≡ zero = omega arith in rw e refl
  greatest-skip n (suc k) le none =
      elim (leb_tells n k) [
        | inl t ↦
            let e : test (suc k) ≡ false = none (suc k) (omega arith) (omega arith) in
            greatest-suc k false (rw e (and-false (nat_lt low (suc k)))) ∙ greatest-skip n k t.1 (λ p a b. none p a (omega arith))
        | inr t ↦ let e : suc k ≡ n = omega (arith, t.1) in ap (λ (i : ℕ). greatest test low i) e
      ]

  -- one that passes is the greatest up to itself
  pub greatest-here : (k : ℕ) → low < k → test k ≡ true → greatest test low k ≡ k
  greatest-here zero h e = absurd (omega arith)
  greatest-here (suc k) h e =
      let below : nat_lt low (suc k) ≡ true = lt-ltb low (suc k) h in
      greatest-suc k true (rw (below, e) refl)

  greatest-first : greatest test low zero ≡ low
  unfolding greatest
  greatest-first = refl

  step-is : (k : ℕ) (b : Bool) → (nat_lt low (suc k) && test (suc k)) ≡ b → IsGreatest test low k (greatest test low k) → IsGreatest test low (suc k) (cond b (suc k) (greatest test low k))
  step-is k true e h = let t = and_parts (nat_lt low (suc k)) (test (suc k)) e in record {
    keeps = omega (arith, ltb-true low (suc k) t.0);
    above = λ q lt le passes. le;
    one = inr (omega arith, t.1);
  }
  step-is k false e h = record {
    keeps = h.keeps;
    above = λ q lt le passes. elim (leb_tells q k) [
      | inl t ↦ h.above q lt t.1 passes
      | inr t ↦
          let same : q ≡ suc k = omega (arith, t.1) in
          let below : nat_lt low (suc k) ≡ true = lt-ltb low (suc k) (omega (arith, same, lt)) in
          let here : test (suc k) ≡ true = ap test (sym same) ∙ passes in
          let yes : (nat_lt low (suc k) && test (suc k)) ≡ true = rw (below, here) refl in
          absurd (cc (sym yes ∙ e))
    ];
    one = elim h.one [ inl z ↦ inl z | inr p ↦ inr (omega (arith, p.0), p.1) ];
  }

  pub is_greatest : (high : ℕ) → IsGreatest test low high (greatest test low high)
  is_greatest zero = rw greatest-first (record { keeps = omega arith; above = λ q lt le passes. absurd (omega arith); one = inl refl })
  is_greatest (suc k) =
      let b = nat_lt low (suc k) && test (suc k) in
      rw (greatest-suc k b refl) (step-is k b refl (is_greatest k))

module _ {C : Type 0} (n me : ℕ) (s : Raft C) (match : List ℕ) where
  is-chosen : (k : ℕ) → k ≤ length s.log → is_chosen n me s match k ≡ true → IsChosen n me s match k
  unfolding is_quorum Quorum
  is-chosen k le e =
      let t = and_parts (term_at s.log k == s.term) (is_quorum n (holds_index me match k)) e in
      record { there = le; term = eqb-true (term_at s.log k) s.term t.0; held = ltb-true n (2 * count (holds_index me match k) n) t.1 }

  chosen-is : (k : ℕ) → IsChosen n me s match k → is_chosen n me s match k ≡ true
  unfolding is_quorum Quorum
  chosen-is k c =
      let term : (term_at s.log k == s.term) ≡ true = eq-eqb (term_at s.log k) s.term c.term in
      let held : is_quorum n (holds_index me match k) ≡ true = lt-ltb n (2 * count (holds_index me match k) n) c.held in
      rw (term, held) refl

  -- what the greatest index that passes means
  risen-means : (p : ℕ) → IsGreatest (is_chosen n me s match) s.commit (length s.log) p → IsRisen n me s match p
  risen-means p h = record {
    keeps = h.keeps;
    above = λ q c. elim (leb_tells q s.commit) [
      | inl t ↦ omega (arith, t.1, h.keeps)
      | inr t ↦ h.above q (omega (arith, t.1)) c.there (chosen-is q c)
    ];
    one = elim h.one [ inl z ↦ inl z | inr t ↦ inr (is-chosen p t.0 t.1) ];
  }

-- a leader's commit index after a rise
pub risen_commit : {C : Type 0} (n me : ℕ) (s : Raft C) (next match : List ℕ) → s.mode ≡ Leader next match → IsRisen n me s match (advanced n me s).commit
risen_commit n me s next match leads =
    let test = is_chosen n me s match in
    subst (λ mode. IsRisen n me s match (advanced_in n me s mode).commit) (sym leads) (risen-means n me s match (greatest test s.commit (length s.log)) (is_greatest test s.commit (length s.log)))

-- ---- the loops

pub number-read : (xs : List ℕ) (i d : ℕ) → i < length xs → index_at xs i ≡ get_or xs i d
number-read xs i d within = ap (or_else 0) (slice_get-get_or xs i d within)

count-same : (f g : ℕ → Bool) (n : ℕ) → ((j : ℕ) → j < n → f j ≡ g j) → count f n ≡ count g n
unfolding count
count-same f g zero h = refl
count-same f g (suc n) h =
    let e : f n ≡ g n = h n (omega arith) in
    let r : count f n ≡ count g n = count-same f g n (λ j l. h j (omega arith)) in rw (e, r) refl

leb-same : (q p m : ℕ) → q ≤ p → (m < p → m < q) → leb q m ≡ leb p m
leb-same q p m le h = grind (arith, nat_tests)

holds-same : (q p m j me low : ℕ) (b : Bool) → eqb j me ≡ b → q ≤ p → low < q → (j ≢ me → m < p → m ≤ low) → (b || leb q m) ≡ (b || leb p m)
holds-same q p m j me low true e le lt h = refl
holds-same q p m j me low false e le lt h = leb-same q p m le (λ below. omega (arith, h (eqb-false j me e) below))

-- between two match indexes of others the same servers hold an index
pub quorum-same : (me : ℕ) (matched : List ℕ) (p q low n : ℕ) → ((j : ℕ) → j < n → j ≢ me → index_at matched j < p → index_at matched j ≤ low) → low < q → q ≤ p → is_quorum n (holds_index me matched q) ≡ is_quorum n (holds_index me matched p)
unfolding is_quorum
quorum-same me matched p q low n others lt le =
    ap (λ (k : ℕ). ltb n (2 * k)) (count-same (holds_index me matched q) (holds_index me matched p) n
    (λ j below. holds-same q p (index_at matched j) j me low (eqb j me) refl le lt (others j below)))

module _ {C : Type 0} (n me term : ℕ) (log : List (Entry C)) (matched : List ℕ) where
  not-held : (q : ℕ) → is_quorum n (holds_index me matched q) ≡ false → is_chosen_in n me term log matched q ≡ false
  not-held q none = rw none (and-false (term_at log q == term))

  -- where no quorum holds an index, none is chosen down to the next lower match index
  pub jump : (commit p low : ℕ) → low ≤ p → is_quorum n (holds_index me matched p) ≡ false → ((j : ℕ) → j < n → j ≢ me → index_at matched j < p → index_at matched j ≤ low) → greatest (is_chosen_in n me term log matched) commit p ≡ greatest (is_chosen_in n me term log matched) commit low
  jump commit p low le none others =
      greatest-skip (is_chosen_in n me term log matched) commit low p le (λ q lt below. not-held q (quorum-same me matched p q low n others lt below ∙ none))

  -- an entry of another term is passed over
  pub step_down : (commit p : ℕ) → 0 < p → term_at log p ≢ term → greatest (is_chosen_in n me term log matched) commit p ≡ greatest (is_chosen_in n me term log matched) commit (p - 1)
  step_down commit p pos other =
      greatest-skip (is_chosen_in n me term log matched) commit (p - 1) p (omega arith) (λ q lt below.
      let same : q ≡ p = omega arith in
      let no : (term_at log q == term) ≡ false = ne_eqb (term_at log q) term (λ e. other (ap (term_at log) (sym same) ∙ e)) in
      rw no refl)

  -- what is found is the greatest
  pub found : (commit p : ℕ) → commit < p → is_quorum n (holds_index me matched p) ≡ true → term_at log p ≡ term → greatest (is_chosen_in n me term log matched) commit p ≡ p
  found commit p lt held same =
      let yes : (term_at log p == term) ≡ true = eq-eqb (term_at log p) term same in
      greatest-here (is_chosen_in n me term log matched) commit p lt (rw (yes, held) refl)

-- one more server is counted
pub count-holder : (me : ℕ) (matched : List ℕ) (index i d : ℕ) (b : Bool) → i < length matched → (eqb i me || leb index (get_or matched i d)) ≡ b → count (holds_index me matched index) (i + 1) ≡ cond b 1 0 + count (holds_index me matched index) i
count-holder me matched index i d b within is =
    count-next (holds_index me matched index) i ∙ ap (λ (x : Bool). cond x 1 0 + count (holds_index me matched index) i) (ap (λ (x : ℕ). eqb i me || leb index x) (number-read matched i d within) ∙ is)
