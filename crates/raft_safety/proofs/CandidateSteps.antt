-- A server votes, and stands.
use Rattle.std.proofs.Common.{◌≡◌, ℕ, suc, ◌<◌, inl, inr, true, Some, None, List, [], ◌∷◌, length, refl, sym, ap, ◌∙◌, subst, arith}
use Rattle.std.proofs.lemmas.Option.{same_Some}
use Rattle.machine_model.specs.declared.entry.Entry.{Entry}
use Rattle.raft_model.specs.Logs.{MAX}
use Rattle.raft_model.specs.Messages.{Message, VoteReply, to_others}
use Rattle.raft_model.specs.Rafts.{Raft, election_started, vote_request_to, is_up_to_date}
use Rattle.raft_safety.specs.Inner.Functions.{with_both}
use Rattle.raft_safety.specs.Inner.Agreement.{Rooted}
use Rattle.raft_safety.specs.Inner.History.{History, CarriesHeld, Ledgers, Extends}
use Rattle.raft_safety.specs.Inner.Invariants.{ModeOk, ServerOk, RequestOk, BodyOk, KeepsHistory}
use Rattle.raft_safety.proofs.Functions.{both_cases, both_same, both_other, both_else}
use Rattle.raft_safety.proofs.Places.{only_marked, to_others_is, get-one}
use Rattle.raft_safety.proofs.VoterSteps.{VotesKept}
use Rattle.raft_safety.proofs.Growth.{carries_on}
use Rattle.raft_safety.proofs.Frame.{log_on}
use Rattle.raft_safety.proofs.QuietSteps.{revote, revote_extends, revote_apart, revote_ledgers, quiet, grant_ok}

module _ {C : Type 0} (P : List (Entry C) → Type 0) (n : ℕ) (G : History C) (i : ℕ) (s : Raft C) (I : Ledgers n G) (ok : ServerOk n G i s) where
  -- a granted vote
  pub grant_keeps : (from index its_last : ℕ) → RequestOk n G from s.term index its_last → is_up_to_date s.log index its_last ≡ true →
      (let r : Raft C = record s { vote = Some from } in
      let out : List (Message C) = record { from = i; to = from; term = s.term; body = VoteReply s.term true } ∷ [] in
      VotesKept n G.ballots i r out → KeepsHistory P n G i r out)
  unfolding BodyOk
  grant_keeps from index its_last r newer v = quiet P n G i s I ok _ _ v (omega arith) ok.log ok.role
      (λ k y q. subst (λ (z : Message C). BodyOk n G z.from z.to z.term z.body) (get-one _ k y q) (grant_ok P n G i s I ok from index its_last r newer))

  -- a new candidate
  pub stand_keeps : length s.log < MAX → VotesKept n G.ballots i (election_started n i s) (to_others i (vote_request_to i (election_started n i s)) n) → KeepsHistory P n G i (election_started n i s) (to_others i (vote_request_to i (election_started n i s)) n)
  unfolding revote ModeOk BodyOk
  stand_keeps index_left v =
      let t = suc s.term in
      let B = v.votes.after in
      let f = with_both G.stood t i (Some s.log) in
      let H : History C = revote G B f in
      let e : Extends G H = revote_extends G B f v.votes.grow (λ u c L h. elim (both_cases G.stood t i (Some s.log) u c) [
        | inl q ↦ absurd (let none : G.stood t i ≡ None = ok.unstood t (omega arith) in
            let some : G.stood t i ≡ Some L = ap (G.stood t) (sym q.1) ∙ (ap (λ w. G.stood w c) (sym q.0) ∙ h) in cc)
        | inr q ↦ q.1 ∙ h
      ]) in
      let now : t ≡ B.term i = v.votes.own.now in
      record {
        after = H;
        extends = e;
        apart = revote_apart i G B f v.votes.apart (λ j u other. both_other G.stood t i (Some s.log) u j other);
        ledgers = revote_ledgers n G B f I e (λ u c L h. elim (both_cases G.stood t i (Some s.log) u c) [
          | inl q ↦ subst (λ X. Rooted G.ledger X) (same_Some s.log L (sym q.2 ∙ h)) ok.log.rooted
          | inr q ↦ I.stands u c L (sym q.1 ∙ h)
        ]);
        own = record {
          voter = v.votes.own;
          unstood = λ u less. both_else G.stood t i (Some s.log) u i (λ q. omega (arith, q, less)) ∙ ok.unstood u (omega (arith, less));
          unheld = λ u less. ok.unheld u (omega (arith, less));
          log = log_on n G H i s.term t s.log s.covered s.commit e (λ u. refl) (omega arith) (ok.unheld t) ok.log;
          role = record {
            stood = both_same G.stood t i (Some s.log);
            unled = λ q. omega (arith, I.late t i q, ok.voter.now);
            index_left = index_left;
            carried = λ j less mark. subst (λ k. CarriesHeld n H t k s.log) (sym (only_marked n i j mark)) (record {
              late = omega (arith, now);
              carries = λ u k less2 one le. carries_on n G H u k s.log e one (ok.log.holds u k one le);
            });
          };
        };
        says = λ k x h. let r = to_others_is i (vote_request_to i (election_started n i s)) n k x h in record {
          vote = v.says k x h;
          body = subst (λ (y : Message C). BodyOk n H y.from y.to y.term y.body) (sym r.3)
              (record { log = s.log; stood = both_same G.stood t i (Some s.log); index_is = refl; last_is = refl });
        };
        sound = λ h. h;
        writes = λ u. inl refl;
      }
