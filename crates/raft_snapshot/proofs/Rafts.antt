-- What a server does whose covered entries are filled in.
use Rattle.std.proofs.Common.{◌≡◌, ℕ, suc, ◌+◌, ◌-◌, ◌&&◌, ◌==◌, nat_le, nat_lt, min, max, Bool, true, false, if◌then◌else◌, List, [], ◌∷◌, length, slice_set, refl, ap, ◌∙◌, inl, inr, arith}
use Rattle.std.proofs.lemmas.Bool.Decides.{leb_tells}
use Rattle.machine_model.specs.declared.entry.Entry.{Entry}
use Rattle.raft_model.specs.Messages.{Body, VoteRequest, VoteReply, Append, AppendReply, Install, InstallReply}
use Rattle.raft_model.specs.Quorums.{is_quorum, marked, index_at}
use Rattle.raft_model.specs.Rafts.{Raft, RaftTurn, Mode, Down, Follower, Candidate, Leader, is_leader, silent, reply, term_observed, grants, granted, won, counted, following, is_held, appended, follows_append, match_raised, backed_off, is_chosen, advanced_in, advanced, after_append_ok, after_append_refusal}
use Rattle.raft_model.specs.Steps.{receives}
use Rattle.raft_snapshot.specs.Prefixes.{log_with_prefix, with_prefix, turn_with_prefix, FitsPrefix, IsPlain}
use Rattle.raft_snapshot.proofs.Logs.{with_prefix-length, with_prefix-term, with_prefix-last_term, with_prefix-has, with_prefix-grown, with_prefix-merge, greatest-same}

module _ {C : Type 0} (P : List (Entry C)) where
  met_at : (term : ℕ) (s : Raft C) (b : Bool) → nat_lt s.term term ≡ b → term_observed term (with_prefix P s) ≡ with_prefix P (term_observed term s)
  met_at term s true is = rw is refl
  met_at term s false is = rw is refl

  pub met-with_prefix : (term : ℕ) (s : Raft C) → term_observed term (with_prefix P s) ≡ with_prefix P (term_observed term s)
  met-with_prefix term s = met_at term s (nat_lt s.term term) refl

  may_met_at : (term : ℕ) (s : Raft C) (b : Bool) → nat_lt s.term term ≡ b → FitsPrefix P s → FitsPrefix P (term_observed term s)
  may_met_at term s true is may = rw is (record { within = may.within; term = may.term; committed = may.committed })
  may_met_at term s false is may = rw is may

  pub may-met : (term : ℕ) (s : Raft C) → FitsPrefix P s → FitsPrefix P (term_observed term s)
  may-met term s may = may_met_at term s (nat_lt s.term term) refl may

  either : (t : Bool) (a b x y : Raft C) → a ≡ with_prefix P x → b ≡ with_prefix P y → (if t then a else b) ≡ with_prefix P (if t then x else y)
  either true a b x y p q = p
  either false a b x y p q = q

  either_turn : (t : Bool) (a b x y : RaftTurn C) → a ≡ turn_with_prefix P x → b ≡ turn_with_prefix P y → (if t then a else b) ≡ turn_with_prefix P (if t then x else y)
  either_turn true a b x y p q = p
  either_turn false a b x y p q = q

  module _ (s : Raft C) (may : FitsPrefix P s) where
    grants-with_prefix : (from term index its_last : ℕ) → grants (with_prefix P s) from term index its_last ≡ grants s from term index its_last
    grants-with_prefix from term index its_last = rw (with_prefix-last_term P s.log may.within may.term, with_prefix-length P s.log may.within may.term) refl

    voted : (me from term : ℕ) (g : Bool) → reply me (granted (with_prefix P s) from g) from (VoteReply term g) ≡ turn_with_prefix P (reply me (granted s from g) from (VoteReply term g))
    voted me from term true = refl
    voted me from term false = refl

    won-with_prefix : (noop : C) (n : ℕ) → won noop n (with_prefix P s) ≡ with_prefix P (won noop n s)
    won-with_prefix noop n = rw (with_prefix-length P s.log may.within may.term, with_prefix-grown P s.log may.within may.term (record { term = s.term; command = noop } ∷ [])) refl

    counted-with_prefix : (noop : C) (n from : ℕ) (mode : Mode) → counted noop n (with_prefix P s) from mode ≡ with_prefix P (counted noop n s from mode)
    counted-with_prefix noop n from Down = refl
    counted-with_prefix noop n from Follower = refl
    counted-with_prefix noop n from (Candidate votes) = let vs = slice_set votes from true in either (is_quorum n (marked vs)) (won noop n (with_prefix P s)) (record (with_prefix P s) { mode = Candidate vs }) (won noop n s) (record s { mode = Candidate vs }) (won-with_prefix noop n) refl
    counted-with_prefix noop n from (Leader next match) = refl

    held-with_prefix : (prev prev_term : ℕ) → is_held (with_prefix P s) prev prev_term ≡ is_held s prev prev_term
    held-with_prefix prev prev_term = elim (leb_tells prev s.commit) [
      | inl t ↦ rw t.0 refl
      | inr t ↦ rw (with_prefix-has P s.log may.within may.term prev prev_term (omega (arith, t.1, may.committed))) refl
    ]

    appended-with_prefix : (prev commit : ℕ) (entries : List (Entry C)) → appended (with_prefix P s) prev commit entries ≡ with_prefix P (appended s prev commit entries)
    appended-with_prefix prev commit entries = rw (with_prefix-merge P s.log may.within may.term s.commit prev entries may.committed) refl

    pub follows-with_prefix : (me from prev prev_term commit : ℕ) (entries : List (Entry C)) → follows_append me (with_prefix P s) from prev prev_term commit entries ≡ turn_with_prefix P (follows_append me s from prev prev_term commit entries)
    follows-with_prefix me from prev prev_term commit entries =
        rw (held-with_prefix prev prev_term, appended-with_prefix prev commit entries, with_prefix-length P s.log may.within may.term) (either_turn (is_held s prev prev_term) (reply me (with_prefix P (appended s prev commit entries)) from (AppendReply s.term true (prev + length entries))) (reply me (with_prefix P s) from (AppendReply s.term false (min (prev - 1) (length s.log)))) (reply me (appended s prev commit entries) from (AppendReply s.term true (prev + length entries))) (reply me s from (AppendReply s.term false (min (prev - 1) (length s.log)))) refl refl)

    advanced_in-with_prefix : (n me : ℕ) (mode : Mode) → advanced_in n me (with_prefix P s) mode ≡ with_prefix P (advanced_in n me s mode)
    advanced_in-with_prefix n me Down = refl
    advanced_in-with_prefix n me Follower = refl
    advanced_in-with_prefix n me (Candidate votes) = refl
    advanced_in-with_prefix n me (Leader next match) =
        let same = greatest-same (is_chosen n me (with_prefix P s) match) (is_chosen n me s match) s.commit (length s.log)
        (λ k above. rw (with_prefix-term P s.log may.within may.term k (omega (arith, above, may.committed))) refl) in
        rw (with_prefix-length P s.log may.within may.term, same) refl

  pub after_append_refusal-with_prefix : (s : Raft C) (may : FitsPrefix P s) (n me j at : ℕ) (mode : Mode) → after_append_refusal n me (with_prefix P s) j at mode ≡ with_prefix P (after_append_refusal n me s j at mode)
  after_append_refusal-with_prefix s may n me j at Down = refl
  after_append_refusal-with_prefix s may n me j at Follower = refl
  after_append_refusal-with_prefix s may n me j at (Candidate votes) = refl
  after_append_refusal-with_prefix s may n me j at (Leader next match) = advanced_in-with_prefix (backed_off s j at next match) (record { within = may.within; term = may.term; committed = may.committed }) n me (backed_off s j at next match).mode

  acked_at : (s : Raft C) (may : FitsPrefix P s) (n me j at : ℕ) (next match : List ℕ) (b : Bool) → nat_le at (length s.log) ≡ b → nat_le at (length (log_with_prefix P s.log)) ≡ b → advanced n me (match_raised (with_prefix P s) j at next match) ≡ with_prefix P (advanced n me (match_raised s j at next match))
  acked_at s may n me j at next match true is also = rw (is, also) (let after = Leader (slice_set next j (suc (max (index_at match j) at))) (slice_set match j (max (index_at match j) at)) in advanced_in-with_prefix (record s { mode = after }) (record { within = may.within; term = may.term; committed = may.committed }) n me after)
  acked_at s may n me j at next match false is also = rw (is, also) (advanced_in-with_prefix s may n me s.mode)

  pub after_append_ok-with_prefix : (s : Raft C) (may : FitsPrefix P s) (n me j at : ℕ) (mode : Mode) → after_append_ok n me (with_prefix P s) j at mode ≡ with_prefix P (after_append_ok n me s j at mode)
  after_append_ok-with_prefix s may n me j at Down = refl
  after_append_ok-with_prefix s may n me j at Follower = refl
  after_append_ok-with_prefix s may n me j at (Candidate votes) = refl
  after_append_ok-with_prefix s may n me j at (Leader next match) = acked_at s may n me j at next match (nat_le at (length s.log)) refl (ap (nat_le at) (with_prefix-length P s.log may.within may.term))

  received : (noop : C) (n me : ℕ) (s : Raft C) → FitsPrefix P s → (from term : ℕ) (body : Body C) → IsPlain body → receives noop n me (with_prefix P s) from term body ≡ turn_with_prefix P (receives noop n me s from term body)
  received noop n me s may from term (VoteRequest index its_last) plain = rw (grants-with_prefix s may from term index its_last) (voted s may me from term (grants s from term index its_last))
  received noop n me s may from term (VoteReply asked granting) plain = ap silent (either ((asked == s.term) && granting) _ _ _ _ (counted-with_prefix s may noop n from s.mode) refl)
  received noop n me s may from term (Append prev prev_term commit entries) plain =
      either_turn (nat_lt term s.term) _ _ _ _ refl (either_turn (is_leader s.mode) _ _ _ _ refl
      (follows-with_prefix (following s from) (record { within = may.within; term = may.term; committed = may.committed }) me from prev prev_term commit entries))
  received noop n me s may from term (AppendReply asked true at) plain = ap silent (either (asked == s.term) _ _ _ _ (after_append_ok-with_prefix s may n me from at s.mode) refl)
  received noop n me s may from term (AppendReply asked false at) plain = ap silent (either (asked == s.term) _ _ _ _ (after_append_refusal-with_prefix s may n me from at s.mode) refl)
  received noop n me s may from term (InstallReply asked at) plain = ap silent (either (asked == s.term) _ _ _ _ (after_append_ok-with_prefix s may n me from at s.mode) refl)
  received noop n me s may from term (Install Q) plain = absurd plain

  pub receives-with_prefix : (noop : C) (n me : ℕ) (s : Raft C) → FitsPrefix P s → (from term : ℕ) (body : Body C) → IsPlain body → receives noop n me (term_observed term (with_prefix P s)) from term body ≡ turn_with_prefix P (receives noop n me (term_observed term s) from term body)
  receives-with_prefix noop n me s may from term body plain = ap (λ (x : Raft C). receives noop n me x from term body) (met-with_prefix term s) ∙ received noop n me (term_observed term s) (may-met term s may) from term body plain
