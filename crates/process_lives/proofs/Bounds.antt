-- Of each server by itself: what its snapshot covers is committed, and what is committed is in its
-- log, after a step too.
use Rattle.std.proofs.Common.{◌≡◌, ℕ, suc, ◌+◌, ◌≤◌, inl, inr, Bool, true, false, ◌&&◌, ◌||◌, cond, leb, eqb, nat_le, Ok, List, [], ◌∷◌, ◌++◌, length, take, drop, refl, sym, subst, arith, length-append, length-take-le}
use Rattle.std.proofs.lemmas.Bool.{leb-true, leb-false}
use Rattle.machine_model.specs.MachineSpec.{MachineSpec}
use Rattle.machine_model.specs.declared.entry.Entry.{Entry}
use Rattle.raft_model.specs.Logs.{term_at, last_term, has, merge, install}
use Rattle.raft_model.specs.Messages.{Message}
use Rattle.raft_model.specs.Rafts.{Raft, RaftTurn, is_held, appended, installed, is_chosen, greatest}
use Rattle.raft_model.specs.Steps.{Input, step}
use Rattle.raft_model.proofs.Cases.{bool_cases}
use Rattle.raft_safety.specs.Inner.SmallSteps.{Small, raises, stands, grants_vote, refuses, counts, wins, extends, follows, takes_append, takes_install, acks, backs, advances, covers, beats_all, Path, still, only, after_one, Turns, walks, resets}
use Rattle.raft_safety.proofs.Paths.{CameIn, step_path}
use Rattle.raft_safety.proofs.LeaderSteps.{greatest_told}

pub record InBounds {C : Type 0} (s : Raft C) : Type 0 where
  pub covered : s.covered ≤ s.commit
  pub commit : s.commit ≤ length s.log

module _ {C : Type 0} where
  -- the same numbers, and a log that is no shorter
  kept : (s t : Raft C) → t.covered ≡ s.covered → t.commit ≡ s.commit → length s.log ≤ length t.log → InBounds s → InBounds t
  kept s t a b c is = record { covered = omega (arith, a, b, is.covered); commit = omega (arith, b, c, is.commit) }

  cut : (c p : ℕ) (log : List (Entry C)) (e : Entry C) (es : List (Entry C)) → leb (suc p) c ≡ false → p ≤ length log
      → (c ≤ length (take p log ++ e ∷ es)) × (p + suc (length es) ≤ length (take p log ++ e ∷ es))
  cut c p log e es hx lp =
      let size = length-append (take p log) (e ∷ es) in
      let front = length-take-le p log lp in
      let past = leb-false (suc p) c hx in
      (omega (arith, size, front, past), omega (arith, size, front))

  merged_case : (c p : ℕ) (log more : List (Entry C)) (e : Entry C) (es : List (Entry C)) (x y z : Bool) → leb (suc p) c ≡ x → leb (suc p) (length log) ≡ y → c ≤ length log → p ≤ length log
      → (suc p ≤ length log → (c ≤ length more) × (suc p + length es ≤ length more))
      → (c ≤ length (cond (x || (y && z)) more (take p log ++ e ∷ es))) × (p + suc (length es) ≤ length (cond (x || (y && z)) more (take p log ++ e ∷ es)))
  merged_case c p log more e es true y z hx hy lc lp rest = let r = rest (omega (arith, leb-true (suc p) c hx, lc)) in (r.0, omega (arith, r.1))
  merged_case c p log more e es false true true hx hy lc lp rest = let r = rest (leb-true (suc p) (length log) hy) in (r.0, omega (arith, r.1))
  merged_case c p log more e es false true false hx hy lc lp rest = cut c p log e es hx lp
  merged_case c p log more e es false false z hx hy lc lp rest = cut c p log e es hx lp

  merged : (c p : ℕ) (log es : List (Entry C)) → c ≤ length log → p ≤ length log → (c ≤ length (merge c p log es)) × (p + length es ≤ length (merge c p log es))
  unfolding merge
  merged c p log [] lc lp = (lc, omega (arith, lp))
  merged c p log (e ∷ es) lc lp =
      merged_case c p log (merge c (suc p) log es) e es (leb (suc p) c) (leb (suc p) (length log)) (eqb (term_at log (suc p)) e.term) refl refl lc lp (λ more. merged c (suc p) log es lc more)

  held_within : (s : Raft C) (prev : ℕ) (x y z : Bool) → leb prev s.commit ≡ x → leb prev (length s.log) ≡ y → s.commit ≤ length s.log → (x || (y && z)) ≡ true → prev ≤ length s.log
  held_within s prev true y z hx hy reaches h = omega (arith, leb-true prev s.commit hx, reaches)
  held_within s prev false true z hx hy reaches h = leb-true prev (length s.log) hy
  held_within s prev false false z hx hy reaches h = absurd (cc)

  install_length : (log P : List (Entry C)) → length P ≤ length (install log P)
  unfolding install
  install_length log P = elim (bool_cases (has log (length P) (last_term P))) [
    | inl e ↦ rw e (omega (arith, length-append P (drop (length P) log)))
    | inr e ↦ rw e (omega arith)
  ]

  took_append : (s : Raft C) (prev prev_term commit : ℕ) (entries : List (Entry C)) → is_held s prev prev_term ≡ true → InBounds s → InBounds (appended s prev commit entries)
  took_append s prev prev_term commit entries held is =
      let within = held_within s prev (leb prev s.commit) (leb prev (length s.log)) (eqb (term_at s.log prev) prev_term) refl refl is.commit held in
      let long = merged s.commit prev s.log entries is.commit within in
      record { covered = omega (arith, is.covered); commit = omega (arith, long.0, long.1) }

  took_install : (s : Raft C) (P : List (Entry C)) → InBounds s → InBounds (installed s P)
  took_install s P is = elim (bool_cases (nat_le (length P) s.commit)) [
    | inl b ↦ rw b is
    | inr b ↦ rw b (record { covered = omega arith; commit = install_length s.log P })
  ]

module _ {S C : Type 0} (m : MachineSpec S C) (n i : ℕ) (sent : List (Message C)) where
  same : (s t u : Raft C) → t ≡ u → InBounds u → InBounds t
  same s t u e is = subst InBounds (sym e) is

  small : (s t : Raft C) (out : List (Message C)) → InBounds s → Small m n i sent s t out → InBounds t
  small s t out is (raises x came less e o) = same s t _ e (kept s _ refl refl (omega arith) is)
  small s t out is (stands term_fits index_fits e o) = same s t _ e (kept s _ refl refl (omega arith) is)
  small s t out is (grants_vote from index its_last came free newer e o) = same s t _ e (kept s _ refl refl (omega arith) is)
  small s t out is (refuses from term request answer came h e o) = same s t s e is
  small s t out is (counts votes from term less came mode e o) = same s t _ e (kept s _ refl refl (omega arith) is)
  small s t out is (wins votes mode many e o) = same s t _ e (kept s _ refl refl (omega (arith, length-append s.log (record { term = s.term; command = m.noop } ∷ []))) is)
  small s t out is (extends next match command fits mode none e o) = same s t _ e (kept s _ refl refl (omega (arith, length-append s.log (record { term = s.term; command = command } ∷ []))) is)
  small s t out is (follows from e o) = same s t _ e (kept s _ refl refl (omega arith) is)
  small s t out is (takes_append from prev prev_term commit entries came mode held e o) = same s t (appended s prev commit entries) e (took_append s prev prev_term commit entries held is)
  small s t out is (takes_install from P came mode e o) = same s t (installed s P) e (took_install s P is)
  small s t out is (acks next match from term at body came ack mode e o) = same s t _ e (elim (bool_cases (nat_le at (length s.log))) [
    | inl b ↦ rw b (kept s _ refl refl (omega arith) is)
    | inr b ↦ rw b is
  ])
  small s t out is (backs next match from at mode e o) = same s t _ e (kept s _ refl refl (omega arith) is)
  small s t out is (advances next match mode e o) =
      let chosen = greatest (is_chosen n i s match) s.commit (length s.log) in
      let far : (chosen ≤ length s.log) × (s.commit ≤ chosen) = elim (greatest_told (is_chosen n i s match) s.commit (length s.log)) [
        | inl low ↦ (omega (arith, low, is.commit), omega (arith, low))
        | inr high ↦ (high.1, omega (arith, high.0))
      ] in
      same s t _ e (record { covered = omega (arith, is.covered, far.1); commit = far.0 })
  small s t out is (covers e o) = same s t _ e (record { covered = omega arith; commit = is.commit })
  small s t out is (beats_all next match mode e o) = same s t s e is

  path : (t : Raft C) (out : List (Message C)) (s : Raft C) → InBounds s → Path m n i sent s t out → InBounds t
  path t out s is (still e o) = same s t s e is
  path t out s is (only x) = small s t out is x
  path t out s is (after_one r x passes p) = path t out r (small s r [] is x) p

  turn : (s t : Raft C) (out : List (Message C)) → InBounds s → Turns m n i sent s t out → InBounds t
  turn s t out is (walks up p) = path t out s is p
  turn s t out is (resets mode h up e o) = same s t _ e (record { covered = omega arith; commit = omega (arith, is.covered, is.commit) })

  pub step_bounds : (s : Raft C) (input : Input C) (t : RaftTurn C) → CameIn m sent i input → step m n i s input ≡ Ok t → InBounds s → InBounds t.server
  step_bounds s input t came is bounds = turn s t.server t.sent bounds (step_path m n i sent s input t came is)
