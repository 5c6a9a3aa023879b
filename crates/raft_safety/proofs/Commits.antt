-- While a server is up its commit index never falls; who goes down or comes up keeps what is
-- stored.
use Rattle.std.proofs.Common.{◌≡◌, ℕ, ◌≤◌, ◌⊎◌, inl, inr, Bool, true, false, nat_le, List, [], length, sym, ap, ◌∙◌, arith, true≢false}
use Rattle.std.proofs.lemmas.Bool.{leb-false}
use Rattle.machine_model.specs.MachineSpec.{MachineSpec}
use Rattle.raft_model.specs.Messages.{Message}
use Rattle.raft_model.specs.Rafts.{Raft, is_up, is_chosen, greatest}
use Rattle.raft_model.proofs.Cases.{bool_cases}
use Rattle.raft_safety.specs.Inner.SmallSteps.{Small, raises, stands, grants_vote, refuses, counts, wins, extends, follows, takes_append, takes_install, acks, backs, advances, covers, beats_all, Path, still, only, after_one, Turns, walks, resets}
use Rattle.raft_safety.specs.Claims.{SameStored}
use Rattle.raft_safety.proofs.Paths.{path_up}
use Rattle.raft_safety.proofs.LeaderSteps.{greatest_told}

-- the search never goes below where it begins
pub greatest_from : (test : ℕ → Bool) (low high : ℕ) → low ≤ greatest test low high
greatest_from test low high = elim (greatest_told test low high) [ inl e ↦ omega (arith, e) | inr e ↦ omega (arith, e.0) ]

module _ {S C : Type 0} (m : MachineSpec S C) (n i : ℕ) (sent : List (Message C)) where
  -- no small step lowers commit
  small_commit : (s t : Raft C) (out : List (Message C)) → Small m n i sent s t out → s.commit ≤ t.commit
  small_commit s t out (raises x came less e o) = omega (arith, ap (λ (y : Raft C). y.commit) e)
  small_commit s t out (stands term_fits index_fits e o) = omega (arith, ap (λ (y : Raft C). y.commit) e)
  small_commit s t out (grants_vote from index its_last came free newer e o) = omega (arith, ap (λ (y : Raft C). y.commit) e)
  small_commit s t out (refuses from term request answer came h e o) = omega (arith, ap (λ (y : Raft C). y.commit) e)
  small_commit s t out (counts votes from term less came mode e o) = omega (arith, ap (λ (y : Raft C). y.commit) e)
  small_commit s t out (wins votes mode many e o) = omega (arith, ap (λ (y : Raft C). y.commit) e)
  small_commit s t out (extends next match command is mode none e o) = omega (arith, ap (λ (y : Raft C). y.commit) e)
  small_commit s t out (follows from e o) = omega (arith, ap (λ (y : Raft C). y.commit) e)
  small_commit s t out (takes_append from prev prev_term commit entries came mode held e o) = omega (arith, ap (λ (y : Raft C). y.commit) e)
  small_commit s t out (takes_install from P came mode e o) = elim (bool_cases (nat_le (length P) s.commit)) [
    | inl b ↦ let q = rw b at e in omega (arith, ap (λ (y : Raft C). y.commit) q)
    | inr b ↦ let q = rw b at e in omega (arith, ap (λ (y : Raft C). y.commit) q, leb-false (length P) s.commit b)
  ]
  small_commit s t out (acks next match from term at body came ack mode e o) = elim (bool_cases (nat_le at (length s.log))) [
    | inl b ↦ let q = rw b at e in omega (arith, ap (λ (y : Raft C). y.commit) q)
    | inr b ↦ let q = rw b at e in omega (arith, ap (λ (y : Raft C). y.commit) q)
  ]
  small_commit s t out (backs next match from at mode e o) = omega (arith, ap (λ (y : Raft C). y.commit) e)
  small_commit s t out (advances next match mode e o) = omega (arith, ap (λ (y : Raft C). y.commit) e, greatest_from (is_chosen n i s match) s.commit (length s.log))
  small_commit s t out (covers e o) = omega (arith, ap (λ (y : Raft C). y.commit) e)
  small_commit s t out (beats_all next match mode e o) = omega (arith, ap (λ (y : Raft C). y.commit) e)

  -- nor does a path
  path_commit : (t : Raft C) (out : List (Message C)) (s : Raft C) → Path m n i sent s t out → s.commit ≤ t.commit
  path_commit t out s (still e o) = omega (arith, ap (λ (y : Raft C). y.commit) e)
  path_commit t out s (only x) = small_commit s t out x
  path_commit t out s (after_one r x passes p) = omega (arith, small_commit s r [] x, path_commit t out r p)

  -- nor does a turn of a server that stays up
  pub turn_commit : (s t : Raft C) (out : List (Message C)) → Turns m n i sent s t out → is_up s.mode ≡ true → is_up t.mode ≡ true → s.commit ≤ t.commit
  turn_commit s t out (walks up p) a b = path_commit t out s p
  turn_commit s t out (resets mode h down e o) a b = absurd (true≢false (sym a ∙ down (sym (ap (λ (y : Raft C). is_up y.mode) e) ∙ b)))

  -- a crash and a restart keep what is stored
  pub turn_stored : (s t : Raft C) (out : List (Message C)) → Turns m n i sent s t out → (is_up s.mode ≡ false) ⊎ (is_up t.mode ≡ false) → SameStored s t
  turn_stored s t out (walks up p) (inl a) = absurd (true≢false (sym up ∙ a))
  turn_stored s t out (walks up p) (inr b) = absurd (true≢false (sym (path_up m n i sent t out s up p) ∙ b))
  turn_stored s t out (resets mode h down e o) a = record {
    term = ap (λ (y : Raft C). y.term) e;
    vote = ap (λ (y : Raft C). y.vote) e;
    log = ap (λ (y : Raft C). y.log) e;
    covered = ap (λ (y : Raft C). y.covered) e;
  }

  -- a restart begins from what the snapshot covers
  pub turn_resumes : (s t : Raft C) (out : List (Message C)) → Turns m n i sent s t out → is_up s.mode ≡ false → t.commit ≡ s.covered
  turn_resumes s t out (walks up p) a = absurd (true≢false (sym up ∙ a))
  turn_resumes s t out (resets mode h down e o) a = ap (λ (y : Raft C). y.commit) e
