-- Commit has risen as far as its rule lets it, at each moment: only a reply can make the rule's
-- condition true, and there it is applied.
use Rattle.std.proofs.Common.{◌≡◌, ◌≢◌, ℕ, zero, suc, ◌*◌, ◌<◌, ◌≤◌, inl, inr, Bool, true, ◌&&◌, ◌||◌, ◌==◌, nat_le, nat_lt, IsTrue, Some, List, [], ◌∷◌, ◌++◌, length, replicate, refl, sym, ap, ◌∙◌, subst, arith, slice_get, true≢false}
use Rattle.std.proofs.lemmas.Bool.{and_from, eqb-true, eqb-false, leb-true, lt-ltb, eq-eqb}
use Rattle.std.proofs.lemmas.Bool.Decides.{leb_tells}
use Rattle.machine_model.specs.MachineSpec.{MachineSpec, LawfulMachine}
use Rattle.machine_model.specs.declared.entry.Entry.{Entry}
use Rattle.raft_model.specs.Logs.{term_at}
use Rattle.raft_model.specs.Quorums.{count, Quorum, is_quorum, index_at}
use Rattle.raft_model.specs.Rafts.{Raft, Leader, is_leader, is_chosen, greatest}
use Rattle.raft_model.specs.Worlds.{World, Event, Run, start, more}
use Rattle.raft_model.proofs.Leading.{Leading, goes_on, hears, appends, wins, step_leads}
use Rattle.raft_model.proofs.Cases.{bool_cases}
use Rattle.raft_safety.specs.Inner.Invariants.{ServerOk}
use Rattle.raft_safety.specs.Claims.{HasRisen}
use Rattle.raft_safety.proofs.Places.{get_set-cases, index_at_replicate, replicate-get}
use Rattle.raft_safety.proofs.Logs.{agree_term}
use Rattle.raft_safety.proofs.Commits.{greatest_from}
use Rattle.raft_safety.proofs.QuietSteps.{or_either, as_leader, held_within}
use Rattle.raft_safety.proofs.WritingSteps.{agree_append}
use Rattle.raft_safety.proofs.Election.{Moves, event_moves}
use Rattle.raft_safety.proofs.Stories.{story}

-- nothing passes
count_none : (n : ℕ) (f : ℕ → Bool) → ((j : ℕ) → j < n → IsTrue (f j) → ⊥) → count f n ≡ 0
unfolding count
count_none zero f h = refl
count_none (suc n) f h = elim (bool_cases (f n)) [
  | inl e ↦ absurd (h n (omega arith) e)
  | inr e ↦ rw e (omega (arith, count_none n f (λ j less. h j (omega (arith, less)))))
]

-- at most one passes
count_lone : (n i : ℕ) (f : ℕ → Bool) → ((j : ℕ) → j < n → IsTrue (f j) → j ≡ i) → count f n ≤ 1
unfolding count
count_lone zero i f h = omega arith
count_lone (suc n) i f h = elim (bool_cases (f n)) [
  | inl e ↦ rw e (omega (arith, count_none n f (λ j less t. omega (arith, less, h j (omega (arith, less)) t, h n (omega arith) e))))
  | inr e ↦ rw e (omega (arith, count_lone n i f (λ j less. h j (omega (arith, less)))))
]

-- one of two or more is no quorum
lone : (n i : ℕ) (f : ℕ → Bool) → 2 ≤ n → ((j : ℕ) → j < n → IsTrue (f j) → j ≡ i) → Quorum n f → ⊥
unfolding Quorum
lone n i f two h q = omega (arith, two, q, count_lone n i f h)

-- what the search passes over fails the test
pub greatest_last : (test : ℕ → Bool) (low high k : ℕ) → low < k → greatest test low high < k → k ≤ high → test k ≡ true → ⊥
unfolding greatest
greatest_last test low zero k some above le t = omega (arith, some, le)
greatest_last test low (suc high) k some above le t = elim (bool_cases (nat_lt low (suc high) && test (suc high))) [
  | inl e ↦ let q = rw e at above in omega (arith, q, le)
  | inr e ↦ let q = rw e at above in elim (leb_tells k high) [
    | inl a ↦ greatest_last test low high k some q a.1 t
    | inr a ↦
        let last : k ≡ suc high = omega (arith, le, a.1) in
        true≢false (sym (and_from (nat_lt low (suc high)) (test (suc high)) (lt-ltb low (suc high) (omega (arith, some, le))) (ap test (sym last) ∙ t)) ∙ e)
  ]
]

-- the test says so
quorum_test : (n : ℕ) (f : ℕ → Bool) → Quorum n f → is_quorum n f ≡ true
unfolding is_quorum Quorum
quorum_test n f q = lt-ltb n (2 * count f n) q

module _ {S C : Type 0} (m : MachineSpec S C) (n i : ℕ) (two : 2 ≤ n) where
  -- an index past what anybody else holds has no quorum
  past_match : (match : List ℕ) (k : ℕ) → ((j : ℕ) → j < n → j ≢ i → index_at match j < k) → Quorum n (λ j. (j == i) || nat_le k (index_at match j)) → ⊥
  past_match match k low = lone n i (λ j. (j == i) || nat_le k (index_at match j)) two (λ j less h. elim (or_either (j == i) (nat_le k (index_at match j)) h) [
    | inl e ↦ eqb-true j i e
    | inr e ↦ elim (bool_cases (j == i)) [
      | inl same ↦ eqb-true j i same
      | inr other ↦ absurd (omega (arith, leb-true k (index_at match j) e, low j less (eqb-false j i other)))
    ]
  ])

  -- one leader's numbers
  same_match : (next match next2 match2 : List ℕ) → Leader next match ≡ Leader next2 match2 → match ≡ match2
  same_match next match next2 match2 e = cc

  -- the leader t came out of a step of s
  leading_risen : (s : Raft C) (input : _) (t : Raft C) → ((next match : List ℕ) → s.mode ≡ Leader next match → (j : ℕ) → j < n → j ≢ i → index_at match j ≤ length s.log) →
      HasRisen n i s → Leading m n i s input t → HasRisen n i t
  leading_risen s input t held old (goes_on mode term log commit) next match k e low high own q =
      old next match k (sym mode ∙ e) (omega (arith, low, commit)) (omega (arith, high, ap length log)) (ap (λ L. term_at L k) (sym log) ∙ (own ∙ term)) q
  leading_risen s input t held old (hears r next2 match2 leads mode term log commit is) next match k e low high own q =
      let same : match2 ≡ match = same_match next2 match2 next match (sym mode ∙ (sym (ap (λ (y : Raft C). y.mode) is) ∙ e)) in
      let its : term_at r.log k ≡ r.term = ap (λ L. term_at L k) (sym (ap (λ (y : Raft C). y.log) is)) ∙ (own ∙ ap (λ (y : Raft C). y.term) is) in
      let test : is_chosen n i r match2 k ≡ true = and_from (term_at r.log k == r.term) (is_quorum n (λ j. (j == i) || nat_le k (index_at match2 j))) (eq-eqb (term_at r.log k) r.term its)
      (quorum_test n (λ j. (j == i) || nat_le k (index_at match2 j)) (subst (λ l. Quorum n (λ j. (j == i) || nat_le k (index_at l j))) (sym same) q)) in
      let above : greatest (is_chosen n i r match2) r.commit (length r.log) < k = omega (arith, low, ap (λ (y : Raft C). y.commit) is) in
      greatest_last (is_chosen n i r match2) r.commit (length r.log) k (omega (arith, above, greatest_from (is_chosen n i r match2) r.commit (length r.log))) above
      (omega (arith, high, ap (λ (y : Raft C). length y.log) is)) test
  leading_risen s input t held old (appends command leads its is) next match k e low high own q =
      let entry : Entry C = record { term = s.term; command = command } in
      let log : t.log ≡ s.log ++ entry ∷ [] = ap (λ (y : Raft C). y.log) is in
      let mode : s.mode ≡ Leader next match = sym (ap (λ (y : Raft C). y.mode) is) ∙ e in
      elim (leb_tells k (length s.log)) [
        | inl a ↦ old next match k mode (omega (arith, low, ap (λ (y : Raft C). y.commit) is)) a.1
            (agree_term k k s.log (s.log ++ entry ∷ []) (agree_append k s.log (entry ∷ []) a.1) (omega (arith, low)) (omega arith) ∙ (ap (λ L. term_at L k) (sym log) ∙ (own ∙ ap (λ (y : Raft C). y.term) is))) q
        | inr a ↦ past_match match k (λ j less other. omega (arith, a.1, held next match mode j less other)) q
      ]
  leading_risen s input t held old (wins votes mode is) next match k e low high own q =
      let same : replicate n 0 ≡ match = same_match (replicate n (suc (length s.log))) (replicate n 0) next match (sym (ap (λ (y : Raft C). y.mode) is) ∙ e) in
      past_match match k (λ j less other. omega (arith, low, ap (λ l. index_at l j) same, index_at_replicate n 0 j less)) q

module _ {S C : Type 0} (m : MachineSpec S C) (law : LawfulMachine m) (n : ℕ) (two : 2 ≤ n) where
  -- an event
  next_risen : (events : List (Event C)) (past : List (World C)) (w : World C) (event : Event C) (next : World C) → Run m n events past w → Moves m w event next →
      ((i : ℕ) (s : Raft C) → slice_get w.servers i ≡ Some s → HasRisen n i s) → (i : ℕ) (t : Raft C) → slice_get next.servers i ≡ Some t → HasRisen n i t
  next_risen events past w event next run x old i t here = elim (get_set-cases w.servers x.who x.new i t (subst (λ l. slice_get l i ≡ Some t) x.servers here)) [
    | inr e ↦ old i t e.1
    | inl e ↦
        let st = story m law n events past w run in
        let ok : ServerOk n st.history x.who x.old = st.ok.each x.who x.old x.here in
        let new : HasRisen n x.who x.new = λ next_index match k is. leading_risen m n x.who two x.old x.input x.new
        (λ ni ma mode j less other.
        let l = as_leader (λ L. Unit {0}) n st.history x.who x.old st.ok.ledgers ok ni ma mode in
        omega (arith, l.matched j less other, held_within (λ L. Unit {0}) n st.history x.who x.old st.ok.ledgers ok j ni ma l))
        (old x.who x.old x.here)
        (subst (λ c. Leading m c x.who x.old x.input x.new) st.ok.size (step_leads m (length w.servers) x.who x.old x.input (record { server = x.new; sent = x.out }) x.step (ap is_leader is)))
        next_index match k is in
        subst (λ j. HasRisen n j t) (sym e.0) (subst (λ (y : Raft C). HasRisen n x.who y) e.1 new)
  ]

  -- a run
  pub run_risen : (events : List (Event C)) (past : List (World C)) (w : World C) → Run m n events past w → (i : ℕ) (s : Raft C) → slice_get w.servers i ≡ Some s → HasRisen n i s
  run_risen events past w start i s here = λ next match k e low high own q.
      let same = replicate-get n _ i s here in
      omega (arith, low, high, ap (λ (y : Raft C). length y.log) same)
  run_risen events past w (more {events = es} {past = before} {w = last} e next r is h) i s here =
      next_risen es before last e w r (event_moves m last w e is h) (run_risen es before last r) i s here
