-- A leader commits, and beats.
use Rattle.std.proofs.Common.{◌≡◌, ℕ, zero, suc, ◌+◌, ◌-◌, ◌<◌, ◌≤◌, ◌⊎◌, inl, inr, Bool, true, ◌&&◌, ◌||◌, ◌==◌, nat_le, nat_lt, List, [], ◌∷◌, length, take, drop, refl, sym, ap, ◌∙◌, subst, arith, length-take-le}
use Rattle.std.proofs.lemmas.Bool.{and_parts, ltb-true, leb-true, eqb-true, le-leb}
use Rattle.std.proofs.lemmas.Bool.Decides.{eqb_tells}
use Rattle.machine_model.specs.declared.entry.Entry.{Entry}
use Rattle.raft_model.specs.Logs.{term_at}
use Rattle.raft_model.specs.Quorums.{index_at, is_quorum}
use Rattle.raft_model.specs.Messages.{Message, to_others}
use Rattle.raft_model.specs.Rafts.{Raft, Leader, is_chosen, greatest, beat_message, beat_body}
use Rattle.raft_model.specs.Chains.{Agree}
use Rattle.raft_model.proofs.Cases.{bool_cases}
use Rattle.raft_safety.specs.Inner.History.{History, Chosen, Fixed, Ledgers}
use Rattle.raft_safety.specs.Inner.Invariants.{LogOk, LeaderOk, ServerOk, AppendOk, InstallOk, BodyOk, KeepsHistory}
use Rattle.raft_safety.proofs.Logs.{agree_sym, agree_trans, agree_less, agree_take}
use Rattle.raft_safety.proofs.Quorums.{quorum_more, quorum_told}
use Rattle.raft_safety.proofs.Places.{to_others_is}
use Rattle.raft_safety.proofs.VoterSteps.{VotesKept}
use Rattle.raft_safety.proofs.Frame.{agree_self, fixed_less, fixed_grow}
use Rattle.raft_safety.proofs.QuietSteps.{or_either, quiet, no_bodies, as_leader}

-- the search finds where it begins, or something that passes
pub greatest_told : (test : ℕ → Bool) (low high : ℕ) → (greatest test low high ≡ low) ⊎ ((low < greatest test low high) × (greatest test low high ≤ high) × (test (greatest test low high) ≡ true))
unfolding greatest
greatest_told test low zero = inl refl
greatest_told test low (suc high) = elim (bool_cases (nat_lt low (suc high) && test (suc high))) [
  | inl e ↦ let a = and_parts (nat_lt low (suc high)) (test (suc high)) e in rw e (inr (ltb-true low (suc high) a.0, omega arith, a.1))
  | inr e ↦ rw e (elim (greatest_told test low high) [ inl r ↦ inl r | inr r ↦ inr (r.0, omega (arith, r.1), r.2) ])
]

-- a list's first entries, as far as there are any
pub take_short : {A : Type 0} (k : ℕ) (X : List A) → take (length (take k X)) X ≡ take k X
take_short zero X = refl
take_short (suc k) [] = refl
take_short (suc k) (x ∷ X) = ap (λ l. x ∷ l) (take_short k X)

-- a first part is no longer
pub length_take : {A : Type 0} (k : ℕ) (X : List A) → length (take k X) ≤ length X
length_take zero X = omega arith
length_take (suc k) [] = omega arith
length_take (suc k) (x ∷ X) = omega (arith, length_take k X)

-- what follows p entries
pub length_drop : {A : Type 0} (p : ℕ) (X : List A) → p ≤ length X → p + length (drop p X) ≡ length X
length_drop zero X h = omega arith
length_drop (suc p) [] h = absurd (omega (arith, h))
length_drop (suc p) (x ∷ X) h = omega (arith, length_drop p X (omega (arith, h)))

module _ {C : Type 0} (P : List (Entry C) → Type 0) (n : ℕ) (G : History C) (i : ℕ) (s : Raft C) (I : Ledgers n G) (ok : ServerOk n G i s) (next match : List ℕ) (mode : s.mode ≡ Leader next match) where
  -- the server leads
  leader : LeaderOk n G i s.term s.log next match
  leader = as_leader P n G i s I ok next match mode

  -- an index that the rule commits is chosen
  chosen_at : (k : ℕ) → 1 ≤ k → k ≤ length s.log → is_chosen n i s match k ≡ true → Chosen n G s.term k
  chosen_at k one le test =
      let a = and_parts (term_at s.log k == s.term) (is_quorum n (λ j. (j == i) || nat_le k (index_at match j))) test in
      let l = leader in
      record {
        one = one;
        there = omega (arith, le, ap length l.wrote);
        own = sym (ap (λ L. term_at L k) l.wrote) ∙ eqb-true (term_at s.log k) s.term a.0;
        quorum = quorum_more n (λ j. (j == i) || nat_le k (index_at match j)) (λ j. nat_le k (G.held s.term j))
            (λ j less h. le-leb k (G.held s.term j) (elim (eqb_tells j i) [
              | inl e ↦ let w : G.held s.term j ≡ length s.log = ap (G.held s.term) e.1 ∙ l.whole in omega (arith, w, le)
              | inr e ↦ elim (or_either (j == i) (nat_le k (index_at match j)) h) [
                | inl b ↦ absurd (e.1 (eqb-true j i b))
                | inr b ↦ omega (arith, leb-true k (index_at match j) b, l.matched j less e.1)
              ]
            ]))
            (quorum_told n (λ j. (j == i) || nat_le k (index_at match j)) a.1);
      }

  -- the log with a commit index that the rule gives
  advanced_log : (k : ℕ) → (k ≡ s.commit) ⊎ ((s.commit < k) × (k ≤ length s.log) × (is_chosen n i s match k ≡ true)) → LogOk n G i s.term s.log s.covered k
  advanced_log k (inl e) = subst (λ c. LogOk n G i s.term s.log s.covered c) (sym e) ok.log
  advanced_log k (inr r) = record {
    terms = ok.log.terms;
    rooted = ok.log.rooted;
    holds = ok.log.holds;
    own = ok.log.own;
    based = omega (arith, ok.log.based, r.0);
    within = r.1;
    fixed = inr (record {
      term = s.term;
      index = k;
      early = omega arith;
      reach = omega arith;
      chosen = chosen_at k (omega (arith, r.0)) r.1 r.2;
      agree = let l = leader in subst (λ L. Agree k s.log L) l.wrote (agree_less k r.1 (agree_self s.log));
    });
  }

  -- the commit rule
  pub advance_keeps : (out : List (Message C)) → out ≡ [] →
      (let r : Raft C = record s { commit = greatest (is_chosen n i s match) s.commit (length s.log) } in VotesKept n G.ballots i r out → KeepsHistory P n G i r out)
  advance_keeps out o v = quiet P n G i s I ok _ out v (omega arith) (advanced_log _ (greatest_told (is_chosen n i s match) s.commit (length s.log))) ok.role (no_bodies P n G i s I ok out o)

  -- the log is the ledger's
  written : (k : ℕ) → k ≤ length s.log → Agree k s.log (G.ledger s.term)
  written k le = let l = leader in subst (λ L. Agree k s.log L) l.wrote (agree_less k le (agree_self s.log))

  -- the term has a leader
  led : 1 ≤ length (G.ledger s.term)
  led = let l = leader in I.led s.term i l.leads

  -- what is committed is fixed in the ledger
  fixed_ledger : (k : ℕ) → k ≤ s.commit → Fixed n G s.term k (G.ledger s.term)
  fixed_ledger k le = fixed_grow n G s.term k s.log (G.ledger s.term) (written k (omega (arith, le, ok.log.within))) (fixed_less n G s.term s.commit k s.log le ok.log.fixed)

  -- the Install of the base
  install_says : InstallOk n G s.term (take s.covered s.log)
  install_says =
      let size : length (take s.covered s.log) ≡ s.covered = length-take-le s.covered s.log (omega (arith, ok.log.based, ok.log.within)) in
      record {
        led = led;
        part = subst (λ k. Agree k (take s.covered s.log) (G.ledger s.term)) (sym size)
            (agree_trans (agree_sym (agree_take s.covered s.covered s.log (omega arith) (omega (arith, ok.log.based, ok.log.within)))) (written s.covered (omega (arith, ok.log.based, ok.log.within))));
        fixed = fixed_ledger _ (omega (arith, size, ok.log.based));
      }

  -- the Append from an index
  append_says : (p : ℕ) → p ≤ length s.log → AppendOk n G s.term p (term_at s.log p) s.commit (take 32 (drop p s.log))
  append_says p le =
      let l = leader in
      record {
        led = led;
        reach = omega (arith, length_take 32 (drop p s.log), length_drop p s.log le, ap length l.wrote);
        part = subst (λ L. take 32 (drop p s.log) ≡ take (length (take 32 (drop p s.log))) (drop p L)) l.wrote (sym (take_short 32 (drop p s.log)));
        before = ap (λ L. term_at L p) l.wrote;
        fixed = fixed_ledger s.commit (omega arith);
      }

  -- what a beat sends
  beat_says : (to next_index : ℕ) → 1 ≤ next_index → next_index ≤ suc (length s.log) → BodyOk n G i to s.term (beat_body s next_index)
  unfolding BodyOk
  beat_says to next_index one le = elim (bool_cases (nat_le next_index s.covered)) [
    | inl e ↦ rw e install_says
    | inr e ↦ rw e (append_says (next_index - 1) (omega (arith, one, le)))
  ]

  -- a beat
  pub beat_keeps : VotesKept n G.ballots i s (to_others i (beat_message i s next) n) → KeepsHistory P n G i s (to_others i (beat_message i s next) n)
  beat_keeps v = quiet P n G i s I ok s _ v (omega arith) ok.log ok.role
      (λ k x h. let r = to_others_is i (beat_message i s next) n k x h in let l = leader in
      subst (λ (y : Message C). BodyOk n G y.from y.to y.term y.body) (sym r.3)
      (beat_says r.0 (index_at next r.0) (l.next_from r.0 r.1 r.2) (l.next_to r.0 r.1 r.2)))
