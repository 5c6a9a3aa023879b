-- Small steps that write nothing new into the history but votes.
use Rattle.std.proofs.Common.{◌≡◌, ◌≢◌, ℕ, suc, ◌-◌, ◌<◌, ◌≤◌, ◌⊎◌, inl, inr, Bool, true, false, ◌&&◌, ◌||◌, ◌==◌, nat_le, nat_lt, min, max, Option, Some, None, List, [], ◌∷◌, length, refl, sym, ap, ◌∙◌, subst, arith, slice_get, slice_set}
use Rattle.std.proofs.lemmas.Bool.{and_parts, ltb-true, leb-true, eqb-true}
use Rattle.std.proofs.lemmas.Option.{same_Some}
use Rattle.machine_model.specs.declared.entry.Entry.{Entry}
use Rattle.raft_model.specs.Logs.{last_term}
use Rattle.raft_model.specs.Quorums.{index_at}
use Rattle.raft_model.specs.Messages.{Message, Body, VoteRequest, VoteReply, Append, AppendReply, Install, InstallReply}
use Rattle.raft_model.specs.Rafts.{Raft, Mode, Down, Follower, Candidate, Leader, is_up_to_date, following, match_raised, backed_off, compacted}
use Rattle.raft_model.proofs.Cases.{bool_cases}
use Rattle.raft_safety.specs.Inner.SmallSteps.{IsAck, OwesNothing, KnowsNothing}
use Rattle.raft_safety.specs.Inner.Agreement.{Rooted}
use Rattle.raft_safety.specs.Inner.Ballots.{Ballots, BallotsGrow, BallotsApart}
use Rattle.raft_safety.specs.Inner.History.{History, CarriesHeld, Ledgers, UpToDate, Extends, DiffersAt}
use Rattle.raft_safety.specs.Inner.Invariants.{LogOk, CandidateOk, LeaderOk, ModeOk, ServerOk, RequestOk, GrantOk, BodyOk, KeepsHistory}
use Rattle.raft_safety.proofs.Places.{marked_set, index_at_set, get-one}
use Rattle.raft_safety.proofs.Voters.{elected_on}
use Rattle.raft_safety.proofs.VoterSteps.{VotesKept}
use Rattle.raft_safety.proofs.Completeness.{grant_carries}
use Rattle.raft_safety.proofs.Growth.{carries_on}
use Rattle.raft_safety.proofs.Frame.{agree_self, extends_none, fixed_less, log_on, role_on, bodies_on}

-- one of two tests passes
pub or_either : (a b : Bool) → (a || b) ≡ true → (a ≡ true) ⊎ (b ≡ true)
or_either true b h = inl refl
or_either false b h = inr h

module _ {C : Type 0} where
  -- the history with other ballots and candidacies
  unfoldable pub revote : History C → Ballots → (ℕ → ℕ → Option (List (Entry C))) → History C
  revote G B f = record { ballots = B; stood = f; leader = G.leader; ledger = G.ledger; held = G.held }

  -- they take nothing back
  pub revote_extends : (G : History C) (B : Ballots) (f : ℕ → ℕ → Option (List (Entry C))) → BallotsGrow G.ballots B →
      ((t c : ℕ) (L : List (Entry C)) → G.stood t c ≡ Some L → f t c ≡ Some L) → Extends G (revote G B f)
  unfolding revote
  revote_extends G B f g h = record { ballots = g; ledgers = λ t. agree_self (G.ledger t); held = λ u i. omega arith; left = λ u i less. refl; stood = h; leaders = λ t c q. q }

  -- and are of one server
  pub revote_apart : (i : ℕ) (G : History C) (B : Ballots) (f : ℕ → ℕ → Option (List (Entry C))) → BallotsApart i G.ballots B →
      ((j t : ℕ) → j ≢ i → f t j ≡ G.stood t j) → DiffersAt i G (revote G B f)
  unfolding revote
  revote_apart i G B f a h = record { ballots = a; stood = h; held = λ j u other. refl; leaders = λ j t other q. q; ledgers = λ j t other q. refl }

  -- and leave the ledgers
  pub revote_ledgers : (n : ℕ) (G : History C) (B : Ballots) (f : ℕ → ℕ → Option (List (Entry C))) → Ledgers n G → Extends G (revote G B f) →
      ((t c : ℕ) (L : List (Entry C)) → f t c ≡ Some L → Rooted G.ledger L) → Ledgers n (revote G B f)
  unfolding revote
  revote_ledgers n G B f I e h = record {
    terms = I.terms;
    rooted = I.rooted;
    unled = I.unled;
    led = I.led;
    elected = λ t c q. elected_on n G.ballots B t c e.ballots (I.elected t c q);
    late = λ t c q. omega (arith, I.late t c q, e.ballots.terms c);
    carries = λ t u k some less one. carries_on n G (revote G B f) u k (G.ledger t) e one (I.carries t u k some less one);
    reaches = I.reaches;
    stands = h;
  }

module _ {C : Type 0} (P : List (Entry C) → Type 0) (n : ℕ) (G : History C) (i : ℕ) (s : Raft C) (I : Ledgers n G) (ok : ServerOk n G i s) where
  -- nothing but votes is new
  pub quiet : (t : Raft C) (out : List (Message C)) → VotesKept n G.ballots i t out → s.term ≤ t.term → LogOk n G i t.term t.log t.covered t.commit →
      ModeOk n G i t.term t.log t.mode → ((k : ℕ) (x : Message C) → slice_get out k ≡ Some x → BodyOk n G x.from x.to x.term x.body) → KeepsHistory P n G i t out
  unfolding revote
  quiet t out v le log role says =
      let B = v.votes.after in
      let H : History C = revote G B G.stood in
      let e : Extends G H = revote_extends G B G.stood v.votes.grow (λ u c L h. h) in
      record {
        after = H;
        extends = e;
        apart = revote_apart i G B G.stood v.votes.apart (λ j u other. refl);
        ledgers = revote_ledgers n G B G.stood I e I.stands;
        own = record {
          voter = v.votes.own;
          unstood = λ u less. ok.unstood u (omega (arith, less, le));
          unheld = λ u less. ok.unheld u (omega (arith, less, le));
          log = log_on n G H i t.term t.term t.log t.covered t.commit e (λ u. refl) (omega arith) (λ less. absurd (omega (arith, less))) log;
          role = role_on n G H i t.term t.log t.mode e (λ q. q) (λ q. refl) refl role;
        };
        says = λ k x h. record { vote = v.says k x h; body = bodies_on n G H x.from x.to x.term x.body e (says k x h) };
        sound = λ h. h;
        writes = λ u. inl refl;
      }

  -- nothing is said
  pub no_bodies : (out : List (Message C)) → out ≡ [] → (k : ℕ) (x : Message C) → slice_get out k ≡ Some x → BodyOk n G x.from x.to x.term x.body
  no_bodies out o k x h = absurd (let q = rw o at h in cc)

  -- a log in a later term
  log_later : (t : ℕ) → s.term ≤ t → LogOk n G i t s.log s.covered s.commit
  log_later t le = log_on n G G i s.term t s.log s.covered s.commit (extends_none G) (λ u. refl) le (ok.unheld t) ok.log

  -- a greater term
  pub raise_keeps : (t : ℕ) (out : List (Message C)) → s.term < t → out ≡ [] →
      (let r : Raft C = record s { term = t; vote = None; known = None; mode = Follower } in VotesKept n G.ballots i r out → KeepsHistory P n G i r out)
  unfolding ModeOk
  raise_keeps t out less o v = quiet _ out v (omega (arith, less)) (log_later t (omega (arith, less))) tt (no_bodies out o)

  -- a follower
  pub follow_keeps : (from : ℕ) (out : List (Message C)) → out ≡ [] → VotesKept n G.ballots i (following s from) out → KeepsHistory P n G i (following s from) out
  unfolding ModeOk
  follow_keeps from out o v = quiet _ out v (omega arith) ok.log tt (no_bodies out o)

  -- a compaction
  pub cover_keeps : (out : List (Message C)) → out ≡ [] → VotesKept n G.ballots i (compacted s) out → KeepsHistory P n G i (compacted s) out
  cover_keeps out o v = quiet _ out v (omega arith)
      (record { terms = ok.log.terms; rooted = ok.log.rooted; holds = ok.log.holds; own = ok.log.own; based = omega arith; within = ok.log.within; fixed = ok.log.fixed }) ok.role (no_bodies out o)

  -- who does nothing owes nothing
  idle_role : (mode : Mode) → KnowsNothing mode → ModeOk n G i s.term s.log mode
  unfolding ModeOk
  idle_role Down h = tt
  idle_role Follower h = tt
  idle_role (Candidate votes) h = absurd h
  idle_role (Leader next match) h = absurd h

  -- a crash or a restart
  pub reset_keeps : (mode : Mode) (out : List (Message C)) → KnowsNothing mode → out ≡ [] →
      (let r : Raft C = record s { commit = s.covered; known = None; mode = mode } in VotesKept n G.ballots i r out → KeepsHistory P n G i r out)
  reset_keeps mode out h o v = quiet _ out v (omega arith)
      (record {
        terms = ok.log.terms;
        rooted = ok.log.rooted;
        holds = ok.log.holds;
        own = ok.log.own;
        based = omega arith;
        within = omega (arith, ok.log.based, ok.log.within);
        fixed = fixed_less n G s.term s.commit s.covered s.log ok.log.based ok.log.fixed;
      }) (idle_role mode h) (no_bodies out o)

  -- a refusal owes nothing
  refused_body : (from to term : ℕ) (body : Body C) → OwesNothing body → BodyOk n G from to term body
  unfolding BodyOk
  refused_body from to term (VoteRequest index its_last) h = absurd h
  refused_body from to term (VoteReply asked true) h = absurd h
  refused_body from to term (VoteReply asked false) h = tt
  refused_body from to term (Append prev prev_term commit entries) h = absurd h
  refused_body from to term (AppendReply asked true at) h = absurd h
  refused_body from to term (AppendReply asked false at) h = tt
  refused_body from to term (Install covered) h = absurd h
  refused_body from to term (InstallReply asked at) h = omega (arith, h)

  -- a refusal
  pub refuse_keeps : (x : Message C) → OwesNothing x.body → VotesKept n G.ballots i s (x ∷ []) → KeepsHistory P n G i s (x ∷ [])
  refuse_keeps x h v = quiet s (x ∷ []) v (omega arith) ok.log ok.role
      (λ k y q. subst (λ z. BodyOk n G z.from z.to z.term z.body) (get-one x k y q) (refused_body x.from x.to x.term x.body h))

  -- a candidate is borne out
  pub as_candidate : (votes : List Bool) → s.mode ≡ Candidate votes → CandidateOk n G i s.term s.log votes
  unfolding ModeOk
  as_candidate votes e = let h : ModeOk n G i s.term s.log (Candidate votes) = subst (λ x. ModeOk n G i s.term s.log x) e ok.role in h

  -- a leader is borne out
  pub as_leader : (next match : List ℕ) → s.mode ≡ Leader next match → LeaderOk n G i s.term s.log next match
  unfolding ModeOk
  as_leader next match e = let h : ModeOk n G i s.term s.log (Leader next match) = subst (λ x. ModeOk n G i s.term s.log x) e ok.role in h

  -- the vote's comparison
  up_to_date_told : (L log : List (Entry C)) → is_up_to_date log (length L) (last_term L) ≡ true → UpToDate L log
  up_to_date_told L log h = elim (or_either (nat_lt (last_term log) (last_term L)) ((last_term log == last_term L) && nat_le (length log) (length L)) h) [
    | inl a ↦ inl (ltb-true (last_term log) (last_term L) a)
    | inr b ↦ let c = and_parts (last_term log == last_term L) (nat_le (length log) (length L)) b in
        inr (eqb-true (last_term log) (last_term L) c.0, leb-true (length log) (length L) c.1)
  ]

  -- who grants a vote held nothing that the candidate lacks
  pub grant_ok : (from index its_last : ℕ) → RequestOk n G from s.term index its_last → is_up_to_date s.log index its_last ≡ true → GrantOk n G i from s.term
  grant_ok from index its_last r newer =
      let up : UpToDate r.log s.log = up_to_date_told r.log s.log (subst (λ x. is_up_to_date s.log x (last_term r.log) ≡ true) r.index_is (subst (λ x. is_up_to_date s.log index x ≡ true) r.last_is newer)) in
      record {
        log = r.log;
        stood = r.stood;
        carried = record {
          late = omega (arith, ok.voter.now);
          carries = λ u k less one le. grant_carries n G s.log r.log I ok.log.rooted (I.stands s.term from r.log r.stood) up u k one (ok.log.holds u k one le);
        };
      }

  -- a candidate with a further vote
  counts_role : (votes : List Bool) (from : ℕ) → s.mode ≡ Candidate votes → GrantOk n G from i s.term → CandidateOk n G i s.term s.log (slice_set votes from true)
  counts_role votes from mode g =
      let c = as_candidate votes mode in
      record {
        stood = c.stood;
        unled = c.unled;
        index_left = c.index_left;
        carried = λ j less mark. elim (marked_set votes from j mark) [
          | inl e ↦ subst (λ k. CarriesHeld n G s.term k s.log) (sym e) (subst (λ L. CarriesHeld n G s.term from L) (same_Some g.log s.log (sym g.stood ∙ c.stood)) g.carried)
          | inr e ↦ c.carried j less e
        ];
      }

  -- a vote counted
  pub count_keeps : (votes : List Bool) (from : ℕ) (out : List (Message C)) → s.mode ≡ Candidate votes → GrantOk n G from i s.term → out ≡ [] →
      (let r : Raft C = record s { mode = Candidate (slice_set votes from true) } in VotesKept n G.ballots i r out → KeepsHistory P n G i r out)
  unfolding ModeOk
  count_keeps votes from out mode g o v = quiet _ out v (omega arith) ok.log (counts_role votes from mode g) (no_bodies out o)

  -- an ok says what is held
  pub ack_told : (from to term asked at : ℕ) (body : Body C) → IsAck body asked at → BodyOk n G from to term body → at ≤ G.held asked from
  unfolding BodyOk
  ack_told from to term asked at (VoteRequest index its_last) h b = absurd h
  ack_told from to term asked at (VoteReply answered granted) h b = absurd h
  ack_told from to term asked at (Append prev prev_term commit entries) h b = absurd h
  ack_told from to term asked at (AppendReply answered true index) h b = subst (λ u. at ≤ G.held u from) h.0 (omega (arith, h.1, b))
  ack_told from to term asked at (AppendReply answered false index) h b = absurd h
  ack_told from to term asked at (Install covered) h b = absurd h
  ack_told from to term asked at (InstallReply answered index) h b = subst (λ u. at ≤ G.held u from) h.0 (omega (arith, h.1, b))

  -- nobody holds more than the leader has written
  pub held_within : (j : ℕ) (next match : List ℕ) → LeaderOk n G i s.term s.log next match → G.held s.term j ≤ length s.log
  held_within j next match l = omega (arith, I.reaches s.term j, ap length l.wrote)

  -- a leader that hears an ok
  acks_role : (next match : List ℕ) (j at : ℕ) → s.mode ≡ Leader next match → at ≤ G.held s.term j →
      LeaderOk n G i s.term s.log (slice_set next j (suc (max (index_at match j) at))) (slice_set match j (max (index_at match j) at))
  acks_role next match j at mode le =
      let l = as_leader next match mode in
      let x = max (index_at match j) at in
      record {
        leads = l.leads;
        wrote = l.wrote;
        whole = l.whole;
        matched = λ k less other. elim (index_at_set match j x k) [
          | inl e ↦ let a : index_at match k ≤ G.held s.term k = l.matched k less other in
              let b : at ≤ G.held s.term k = subst (λ y. at ≤ G.held s.term y) (sym e.0) le in
              let c : index_at match j ≡ index_at match k = ap (index_at match) (sym e.0) in omega (arith, e.1, a, b, c)
          | inr e ↦ omega (arith, e, l.matched k less other)
        ];
        next_from = λ k less other. elim (index_at_set next j (suc x) k) [ inl e ↦ omega (arith, e.1) | inr e ↦ omega (arith, e, l.next_from k less other) ];
        next_to = λ k less other. elim (index_at_set next j (suc x) k) [
          | inl e ↦ let a : index_at match k ≤ G.held s.term k = l.matched k less other in
              let c : index_at match j ≡ index_at match k = ap (index_at match) (sym e.0) in
              omega (arith, e.1, a, c, le, held_within k next match l, held_within j next match l)
          | inr e ↦ omega (arith, e, l.next_to k less other)
        ];
      }

  -- a leader that hears a refusal
  backs_role : (next match : List ℕ) (j at : ℕ) → s.mode ≡ Leader next match →
      LeaderOk n G i s.term s.log (slice_set next j (max (suc (index_at match j)) (min (index_at next j - 1) (suc at)))) match
  backs_role next match j at mode =
      let l = as_leader next match mode in
      let x = max (suc (index_at match j)) (min (index_at next j - 1) (suc at)) in
      record {
        leads = l.leads;
        wrote = l.wrote;
        whole = l.whole;
        matched = l.matched;
        next_from = λ k less other. elim (index_at_set next j x k) [ inl e ↦ omega (arith, e.1) | inr e ↦ omega (arith, e, l.next_from k less other) ];
        next_to = λ k less other. elim (index_at_set next j x k) [
          | inl e ↦ let a : index_at match k ≤ G.held s.term k = l.matched k less other in
              let c : index_at match j ≡ index_at match k = ap (index_at match) (sym e.0) in
              let d : index_at next j ≡ index_at next k = ap (index_at next) (sym e.0) in
              omega (arith, e.1, a, c, d, l.next_to k less other, held_within k next match l)
          | inr e ↦ omega (arith, e, l.next_to k less other)
        ];
      }

  -- an ok
  pub ack_keeps : (next match : List ℕ) (j at : ℕ) (out : List (Message C)) → s.mode ≡ Leader next match → at ≤ G.held s.term j → out ≡ [] →
      VotesKept n G.ballots i (match_raised s j at next match) out → KeepsHistory P n G i (match_raised s j at next match) out
  unfolding ModeOk
  ack_keeps next match j at out mode le o = elim (bool_cases (nat_le at (length s.log))) [
    | inl e ↦ rw e (λ v. quiet _ out v (omega arith) ok.log (acks_role next match j at mode le) (no_bodies out o))
    | inr e ↦ rw e (λ v. quiet s out v (omega arith) ok.log ok.role (no_bodies out o))
  ]

  -- a refusal heard
  pub back_keeps : (next match : List ℕ) (j at : ℕ) (out : List (Message C)) → s.mode ≡ Leader next match → out ≡ [] →
      VotesKept n G.ballots i (backed_off s j at next match) out → KeepsHistory P n G i (backed_off s j at next match) out
  unfolding ModeOk
  back_keeps next match j at out mode o v = quiet _ out v (omega arith) ok.log (backs_role next match j at mode) (no_bodies out o)
