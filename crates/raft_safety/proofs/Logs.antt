-- Logs that agree.
use Rattle.std.proofs.Common.{ℕ, zero, suc, ◌+◌, ◌<◌, ◌≤◌, ◌≡◌, List, [], ◌∷◌, ◌++◌, length, take, drop, refl, sym, ap, ◌∙◌, arith, inl, inr, take-take, subst, length-take-le, take-add, take_all, take-append-drop, cond, Bool, true, false, ◌&&◌, ◌||◌, leb, eqb, true≢false}
use Rattle.std.proofs.lemmas.Bool.{leb-true, leb-false, eqb-true, eqb-false}
use Rattle.std.proofs.lemmas.Bool.Decides.{leb_tells}
use Rattle.machine_model.specs.declared.entry.Entry.{Entry}
use Rattle.raft_model.specs.Logs.{term_at, merge, install}
use Rattle.raft_model.specs.Chains.{Agree}
use Rattle.raft_safety.specs.Inner.Agreement.{Rooted, Adopted}

module _ {C : Type 0} where
  -- the first 0 entries
  pub agree_none : (A B : List (Entry C)) → Agree 0 A B
  agree_none A B = record { left = omega arith; right = omega arith; same = refl }

  -- either way round
  pub agree_sym : {k : ℕ} {A B : List (Entry C)} → Agree k A B → Agree k B A
  agree_sym h = record { left = h.right; right = h.left; same = sym h.same }

  -- by a third one
  pub agree_trans : {k : ℕ} {A B C : List (Entry C)} → Agree k A B → Agree k B C → Agree k A C
  agree_trans g h = record { left = g.left; right = h.right; same = g.same ∙ h.same }

  -- fewer entries
  pub agree_less : {k : ℕ} {A B : List (Entry C)} (j : ℕ) → j ≤ k → Agree k A B → Agree j A B
  agree_less {k} {A} {B} j le h = record {
    left = omega (arith, le, h.left);
    right = omega (arith, le, h.right);
    same = sym (take-take j k A le) ∙ (ap (take j) h.same ∙ take-take j k B le);
  }

  -- entries that agree have one term
  pub agree_term : (k p : ℕ) (A B : List (Entry C)) → Agree k A B → 1 ≤ p → p ≤ k → term_at A p ≡ term_at B p
  unfolding term_at
  agree_term k zero A B h one le = absurd (omega (arith, one))
  agree_term zero (suc p) A B h one le = absurd (omega (arith, le))
  agree_term (suc k) (suc p) [] B h one le = absurd (omega (arith, h.left))
  agree_term (suc k) (suc p) (a ∷ A) [] h one le = absurd (omega (arith, h.right))
  agree_term (suc k) (suc zero) (a ∷ A) (b ∷ B) h one le = cc (h.same)
  agree_term (suc k) (suc (suc p)) (a ∷ A) (b ∷ B) h one le = agree_term k (suc p) A B (record { left = omega (arith, h.left); right = omega (arith, h.right); same = cc (h.same) }) (omega arith) (omega (arith, le))

  -- log matching: one term at one position, and all before is the same
  pub rooted_two : (ledger : ℕ → List (Entry C)) (A B : List (Entry C)) (p : ℕ) → Rooted ledger A → Rooted ledger B → 1 ≤ p → p ≤ length A → p ≤ length B → term_at A p ≡ term_at B p → Agree p A B
  unfolding Rooted
  rooted_two ledger A B p ra rb one la lb same =
      agree_trans (ra p one la) (agree_sym (subst (λ t. Agree p B (ledger t)) (sym same) (rb p one lb)))

  -- the first m of L, as a log
  pub agree_take : (k m : ℕ) (L : List (Entry C)) → k ≤ m → m ≤ length L → Agree k L (take m L)
  agree_take k m L le lm = record { left = omega (arith, le, lm); right = omega (arith, le, length-take-le m L lm); same = sym (take-take k m L le) }

  -- what the rule's test tells
  passed : (ledger : ℕ → List (Entry C)) (L log : List (Entry C)) (c p : ℕ) (e : Entry C) (x y z : Bool) → Rooted ledger log → Rooted ledger L → Agree c log L → suc p ≤ length L → e.term ≡ term_at L (suc p) → leb (suc p) c ≡ x → leb (suc p) (length log) ≡ y → eqb (term_at log (suc p)) e.term ≡ z → (x || (y && z)) ≡ true → Agree (suc p) log L
  passed ledger L log c p e true y z rl rL hc lL he hx hy hz h = agree_less (suc p) (leb-true (suc p) c hx) hc
  passed ledger L log c p e false true true rl rL hc lL he hx hy hz h = rooted_two ledger log L (suc p) rl rL (omega arith) (leb-true (suc p) (length log) hy) lL (eqb-true (term_at log (suc p)) e.term hz ∙ he)
  passed ledger L log c p e false true false rl rL hc lL he hx hy hz h = absurd (true≢false (sym h))
  passed ledger L log c p e false false z rl rL hc lL he hx hy hz h = absurd (true≢false (sym h))

  -- where the log is cut nothing agrees further
  cut_short : (L log : List (Entry C)) (c p k : ℕ) (e : Entry C) (x y z : Bool) → Agree k L log → e.term ≡ term_at L (suc p) → leb (suc p) (length log) ≡ y → eqb (term_at log (suc p)) e.term ≡ z → (x || (y && z)) ≡ false → k ≤ p
  cut_short L log c p k e true y z hk he hy hz h = absurd (true≢false h)
  cut_short L log c p k e false false z hk he hy hz h = omega (arith, leb-false (suc p) (length log) hy, hk.right)
  cut_short L log c p k e false true true hk he hy hz h = absurd (true≢false h)
  cut_short L log c p k e false true false hk he hy hz h =
      elim (leb_tells k p) [ inl t ↦ t.1 | inr t ↦ absurd (eqb-false (term_at log (suc p)) e.term hz (sym (agree_term k (suc p) L log hk (omega arith) (omega (arith, t.1))) ∙ sym he)) ]

  -- a part of a list, entry by entry
  segment : (p : ℕ) (L : List (Entry C)) (e : Entry C) (es : List (Entry C)) → e ∷ es ≡ take (suc (length es)) (drop p L) → (e.term ≡ term_at L (suc p)) × (es ≡ take (length es) (drop (suc p) L))
  unfolding term_at
  segment zero [] e es h = absurd (cc (h))
  segment zero (x ∷ L) e es h = (cc (h), cc (h))
  segment (suc p) [] e es h = absurd (cc (h))
  segment (suc p) (x ∷ L) e es h = segment p L e es h

  -- the leader's first m in place of a log that agrees with no more
  adopted_cut : (L log : List (Entry C)) (p m : ℕ) → p ≤ m → m ≤ length L → ((k : ℕ) → Agree k L log → k ≤ p) → Adopted L log (take m L) m
  adopted_cut L log p m le lm short = record {
    reached = agree_take m m L (omega arith) lm;
    origin = inr refl;
    kept = λ k h. agree_take k m L (omega (arith, short k h, le)) lm;
  }

  -- one entry of the message
  merge_step : (L log : List (Entry C)) (c p m : ℕ) (e : Entry C) (es : List (Entry C)) (t : Bool) → Agree p log L → m ≡ p + suc (length es) → m ≤ length L → e ∷ es ≡ take (suc (length es)) (drop p L) → (leb (suc p) c || (leb (suc p) (length log) && eqb (term_at log (suc p)) e.term)) ≡ t → (t ≡ true → Adopted L log (merge c (suc p) log es) m) → Adopted L log (cond t (merge c (suc p) log es) (take p log ++ e ∷ es)) m
  merge_step L log c p m e es true hp hm hl hs test r = r refl
  merge_step L log c p m e es false hp hm hl hs test r =
      let q : take m L ≡ take p log ++ e ∷ es = ap (λ n. take n L) hm ∙ (take-add p (suc (length es)) L ∙ (ap (λ w. take p L ++ w) (sym hs) ∙ ap (λ w. w ++ e ∷ es) (sym hp.same))) in
      subst (λ w. Adopted L log w m) q
      (adopted_cut L log p m (omega (arith, hm)) hl
      (λ k h. cut_short L log c p k e (leb (suc p) c) (leb (suc p) (length log)) (eqb (term_at log (suc p)) e.term) h (segment p L e es hs).0 refl refl test))

  -- Append: the log stays, or becomes the first m of the leader's
  pub merge_adopts : (ledger : ℕ → List (Entry C)) (L log : List (Entry C)) (es : List (Entry C)) (c p m : ℕ) → Rooted ledger log → Rooted ledger L → Agree c log L → Agree p log L → m ≡ p + length es → m ≤ length L → es ≡ take (length es) (drop p L) → Adopted L log (merge c p log es) m
  unfolding merge
  merge_adopts ledger L log [] c p m rl rL hc hp hm hl hs = record {
    reached = agree_less m (omega (arith, hm)) (agree_sym hp);
    origin = inl refl;
    kept = λ k h. h;
  }
  merge_adopts ledger L log (e ∷ es) c p m rl rL hc hp hm hl hs =
      let s = segment p L e es hs in
      merge_step L log c p m e es (leb (suc p) c || (leb (suc p) (length log) && eqb (term_at log (suc p)) e.term)) hp hm hl hs refl
      (λ test. merge_adopts ledger L log es c (suc p) m rl rL hc
      (passed ledger L log c p e (leb (suc p) c) (leb (suc p) (length log)) (eqb (term_at log (suc p)) e.term) rl rL hc (omega (arith, hm, hl)) s.0 refl refl refl test)
      (omega (arith, hm)) hl s.1)

  -- the snapshot in place of the log
  installed : (L log P : List (Entry C)) → Agree (length P) P L → ((k : ℕ) → Agree k L log → k < length P) → Adopted L log P (length P)
  installed L log P hP short =
      let q : take (length P) L ≡ P = sym hP.same ∙ take_all (length P) P (omega arith) in
      subst (λ w. Adopted L log w (length P)) q (adopted_cut L log (length P) (length P) (omega arith) hP.right (λ k h. omega (arith, short k h)))

  -- by the two tests
  install_step : (ledger : ℕ → List (Entry C)) (L log P : List (Entry C)) (y z : Bool) → Rooted ledger log → Rooted ledger L → 1 ≤ length P → Agree (length P) P L → leb (length P) (length log) ≡ y → eqb (term_at log (length P)) (term_at P (length P)) ≡ z → Adopted L log (cond (y && z) (P ++ drop (length P) log) P) (length P)
  install_step ledger L log P true true rl rL one hP hy hz =
      let n = length P in
      let same_term : term_at log n ≡ term_at L n = eqb-true (term_at log n) (term_at P n) hz ∙ agree_term n n P L hP one (omega arith) in
      let held : Agree n log L = rooted_two ledger log L n rl rL one (leb-true n (length log) hy) hP.right same_term in
      let P_is : P ≡ take n log = sym (take_all n P (omega arith)) ∙ (hP.same ∙ sym held.same) in
      let q : P ++ drop n log ≡ log = ap (λ w. w ++ drop n log) P_is ∙ take-append-drop n log in
      subst (λ w. Adopted L log w n) (sym q) (record { reached = agree_sym held; origin = inl refl; kept = λ k h. h })
  install_step ledger L log P true false rl rL one hP hy hz = installed L log P hP
      (λ k h. elim (leb_tells (suc k) (length P)) [ inl t ↦ t.1 | inr t ↦ absurd (eqb-false (term_at log (length P)) (term_at P (length P)) hz (sym (agree_term k (length P) L log h one (omega (arith, t.1))) ∙ sym (agree_term (length P) (length P) P L hP one (omega arith)))) ])
  install_step ledger L log P false z rl rL one hP hy hz = installed L log P hP (λ k h. omega (arith, leb-false (length P) (length log) hy, h.right))

  -- Install: the log stays, or becomes the snapshot's entries
  pub install_adopts : (ledger : ℕ → List (Entry C)) (L log P : List (Entry C)) → Rooted ledger log → Rooted ledger L → 1 ≤ length P → Agree (length P) P L → Adopted L log (install log P) (length P)
  unfolding install
  install_adopts ledger L log P rl rL one hP = install_step ledger L log P (leb (length P) (length log)) (eqb (term_at log (length P)) (term_at P (length P))) rl rL one hP refl refl

  -- an entry and its first part
  pub rooted_at : (ledger : ℕ → List (Entry C)) (A : List (Entry C)) (p : ℕ) → Rooted ledger A → 1 ≤ p → p ≤ length A → Agree p A (ledger (term_at A p))
  unfolding Rooted
  rooted_at ledger A p r one le = r p one le
