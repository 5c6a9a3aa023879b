-- Each event is a path of small steps.
use Rattle.std.proofs.Common.{◌≡◌, ℕ, suc, ◌<◌, ◌≤◌, inl, inr, Bool, true, false, ◌&&◌, ◌==◌, nat_lt, nat_le, max, Option, Some, None, Ok, List, [], ◌∷◌, length, refl, sym, ap, ◌∙◌, subst, arith, slice_set, true≢false}
use Rattle.std.proofs.lemmas.Bool.{and_parts, ltb-true, ltb-false, eqb-true}
use Rattle.machine_model.specs.MachineSpec.{MachineSpec, IsCommandOf}
use Rattle.rows.specs.declared.refusal.Refusal.{Refusal}
use Rattle.machine_model.specs.declared.entry.Entry.{Entry}
use Rattle.raft_model.specs.Logs.{MAX}
use Rattle.raft_model.specs.Quorums.{is_quorum, marked, index_at}
use Rattle.raft_model.specs.Messages.{Message, Body, VoteRequest, VoteReply, Append, AppendReply, Install, InstallReply}
use Rattle.raft_model.specs.Rafts.{Raft, RaftTurn, Mode, Down, Follower, Candidate, Leader, is_up, is_leader, silent, term_observed, grants, is_free_for, is_up_to_date, counted, with_votes, following, is_held, installed, match_raised, advanced_in, after_append_ok, after_append_refusal, beats, extended}
use Rattle.raft_model.specs.Steps.{Input, Arrives, Timeout, Beat, Propose, Compact, Crash, Restart, receives, times_out, proposes, acts, wakes, step, admission_refusal, unless}
use Rattle.raft_model.proofs.Cases.{bool_cases, same_ok}
use Rattle.raft_safety.specs.Inner.SmallSteps.{IsAck, WasSent, Small, raises, stands, grants_vote, refuses, counts, wins, extends, follows, takes_append, takes_install, acks, backs, advances, covers, beats_all, Path, still, only, after_one, Turns, walks, resets}

-- what came to the server
abbrev pub CameIn : {S C : Type 0} → MachineSpec S C → List (Message C) → ℕ → Input C → Type 0
CameIn m sent i (Arrives message) = WasSent sent message × (message.to ≡ i)
CameIn m sent i Timeout = Unit {0}
CameIn m sent i Beat = Unit {0}
CameIn m sent i (Propose command) = IsCommandOf m command
CameIn m sent i Compact = Unit {0}
CameIn m sent i Crash = Unit {0}
CameIn m sent i Restart = Unit {0}

module _ {S C : Type 0} (m : MachineSpec S C) (n i : ℕ) (sent : List (Message C)) where
  -- small steps to a turn
  PathTo : Raft C → RaftTurn C → Type 0
  PathTo s turn = Path m n i sent s turn.server turn.sent

  -- the vote
  request_path : (s : Raft C) (from term index its_last : ℕ) → WasSent sent (record { from = from; to = i; term = term; body = VoteRequest index its_last }) →
      PathTo s (receives m.noop n i s from term (VoteRequest index its_last))
  unfolding PathTo
  request_path s from term index its_last came = elim (bool_cases (grants s from term index its_last)) [
    | inl e ↦
        let a = and_parts (term == s.term) (is_free_for s.vote from && is_up_to_date s.log index its_last) e in
        let b = and_parts (is_free_for s.vote from) (is_up_to_date s.log index its_last) a.1 in
        let same : term ≡ s.term = eqb-true term s.term a.0 in
        rw e (only (grants_vote from index its_last
        (subst (λ t. WasSent sent (record { from = from; to = i; term = t; body = VoteRequest index its_last })) same came) b.0 b.1 refl
        (ap (λ t. record { from = i; to = from; term = s.term; body = VoteReply t true } ∷ []) same)))
    | inr e ↦ rw e (only (refuses from term _ _ came tt refl refl))
  ]

  -- a vote that counts
  votes_path : (s : Raft C) (votes : List Bool) (from term : ℕ) → from < n → WasSent sent (record { from = from; to = i; term = term; body = VoteReply s.term true }) →
      s.mode ≡ Candidate votes → PathTo s (silent (with_votes m.noop n s (slice_set votes from true)))
  unfolding PathTo
  votes_path s votes from term less came mode = elim (bool_cases (is_quorum n (marked (slice_set votes from true)))) [
    | inl e ↦ rw e (after_one (record s { mode = Candidate (slice_set votes from true) }) (counts votes from term less came mode refl refl) (λ l. absurd (cc))
        (only (wins (slice_set votes from true) refl e refl refl)))
    | inr e ↦ rw e (only (counts votes from term less came mode refl refl))
  ]

  -- a vote, in each mode
  counted_path : (s : Raft C) (mode : Mode) (from term : ℕ) → from < n → WasSent sent (record { from = from; to = i; term = term; body = VoteReply s.term true }) →
      s.mode ≡ mode → PathTo s (silent (counted m.noop n s from mode))
  unfolding PathTo
  counted_path s Down from term less came mode = still refl refl
  counted_path s Follower from term less came mode = still refl refl
  counted_path s (Candidate votes) from term less came mode = votes_path s votes from term less came mode
  counted_path s (Leader next match) from term less came mode = still refl refl

  -- a reply to a request for votes
  vote_path : (s : Raft C) (from term asked : ℕ) (granting : Bool) → from < n → WasSent sent (record { from = from; to = i; term = term; body = VoteReply asked granting }) →
      PathTo s (receives m.noop n i s from term (VoteReply asked granting))
  unfolding PathTo
  vote_path s from term asked granting less came = elim (bool_cases ((asked == s.term) && granting)) [
    | inl e ↦
        let a = and_parts (asked == s.term) granting e in
        rw e (counted_path s s.mode from term less
        (subst (λ t. WasSent sent (record { from = from; to = i; term = term; body = VoteReply t true })) (eqb-true asked s.term a.0)
        (subst (λ b. WasSent sent (record { from = from; to = i; term = term; body = VoteReply asked b })) a.1 came)) refl)
    | inr e ↦ rw e (still refl refl)
  ]

  -- entries
  same_term : (term : ℕ) (s : Raft C) → term ≤ s.term → nat_lt term s.term ≡ false → term ≡ s.term
  same_term term s le e = omega (arith, le, ltb-false term s.term e)

  -- an Append
  append_path : (s : Raft C) (from term prev prev_term commit : ℕ) (entries : List (Entry C)) → term ≤ s.term →
      WasSent sent (record { from = from; to = i; term = term; body = Append prev prev_term commit entries }) →
      PathTo s (receives m.noop n i s from term (Append prev prev_term commit entries))
  unfolding PathTo
  append_path s from term prev prev_term commit entries le came = elim (bool_cases (nat_lt term s.term)) [
    | inl e ↦ rw e (only (refuses from term _ _ came tt refl refl))
    | inr e ↦ rw e (elim (bool_cases (is_leader s.mode)) [
      | inl l ↦ rw l (still refl refl)
      | inr l ↦ rw l (elim (bool_cases (is_held s prev prev_term)) [
        | inl h ↦ rw h (after_one (following s from) (follows from refl refl) (λ l. absurd (cc))
            (only (takes_append from prev prev_term commit entries
            (subst (λ t. WasSent sent (record { from = from; to = i; term = t; body = Append prev prev_term commit entries })) (same_term term s le e) came) refl h refl refl)))
        | inr h ↦ rw h (after_one (following s from) (follows from refl refl) (λ l. absurd (cc)) (only (refuses from term _ _ came tt refl refl)))
      ])
    ])
  ]

  -- an Install
  install_path : (s : Raft C) (from term : ℕ) (P : List (Entry C)) → term ≤ s.term →
      WasSent sent (record { from = from; to = i; term = term; body = Install P }) → PathTo s (receives m.noop n i s from term (Install P))
  unfolding PathTo
  install_path s from term P le came = elim (bool_cases (nat_lt term s.term)) [
    | inl e ↦ rw e (only (refuses from term _ _ came refl refl refl))
    | inr e ↦ rw e (elim (bool_cases (is_leader s.mode)) [
      | inl l ↦ rw l (still refl refl)
      | inr l ↦ rw l (after_one (following s from) (follows from refl refl) (λ l. absurd (cc))
          (only (takes_install from P
          (subst (λ t. WasSent sent (record { from = from; to = i; term = t; body = Install P })) (same_term term s le e) came) refl refl
          (ap (λ t. record { from = i; to = from; term = (installed (following s from) P).term; body = InstallReply t (length P) } ∷ []) (same_term term s le e)))))
    ])
  ]

  -- replies to entries
  advance_path : (s : Raft C) (mode : Mode) → s.mode ≡ mode → PathTo s (silent (advanced_in n i s mode))
  unfolding PathTo
  advance_path s Down mode = still refl refl
  advance_path s Follower mode = still refl refl
  advance_path s (Candidate votes) mode = still refl refl
  advance_path s (Leader next match) mode = only (advances next match mode refl refl)

  -- an ok
  ok_path : (s : Raft C) (mode : Mode) (from term at : ℕ) (body : Body C) → WasSent sent (record { from = from; to = i; term = term; body = body }) → IsAck body s.term at →
      s.mode ≡ mode → PathTo s (silent (after_append_ok n i s from at mode))
  unfolding PathTo
  ok_path s Down from term at body came ack mode = still refl refl
  ok_path s Follower from term at body came ack mode = still refl refl
  ok_path s (Candidate votes) from term at body came ack mode = still refl refl
  ok_path s (Leader next match) from term at body came ack mode = elim (bool_cases (nat_le at (length s.log))) [
    | inl e ↦
        let r : Raft C = record s { mode = Leader (slice_set next from (suc (max (index_at match from) at))) (slice_set match from (max (index_at match from) at)) } in
        let q : r ≡ match_raised s from at next match = rw e refl in
        rw e (after_one {s = s} r (acks next match from term at body came ack mode q refl) (λ l. (ap is_leader mode, refl, refl)) (only (advances _ _ refl refl refl)))
    | inr e ↦ rw e (advance_path s s.mode refl)
  ]

  -- a refusal
  refusal_path : (s : Raft C) (mode : Mode) (from at : ℕ) → s.mode ≡ mode → PathTo s (silent (after_append_refusal n i s from at mode))
  unfolding PathTo
  refusal_path s Down from at mode = still refl refl
  refusal_path s Follower from at mode = still refl refl
  refusal_path s (Candidate votes) from at mode = still refl refl
  refusal_path s (Leader next match) from at mode = after_one _ (backs next match from at mode refl refl) (λ l. (ap is_leader mode, refl, refl)) (only (advances _ _ refl refl refl))

  -- a message of a term up to the server's own
  receives_path : (s : Raft C) (from term : ℕ) (body : Body C) → from < n → term ≤ s.term → WasSent sent (record { from = from; to = i; term = term; body = body }) →
      PathTo s (receives m.noop n i s from term body)
  unfolding PathTo
  receives_path s from term (VoteRequest index its_last) less le came = request_path s from term index its_last came
  receives_path s from term (VoteReply asked granting) less le came = vote_path s from term asked granting less came
  receives_path s from term (Append prev prev_term commit entries) less le came = append_path s from term prev prev_term commit entries le came
  receives_path s from term (AppendReply asked true at) less le came = elim (bool_cases (asked == s.term)) [
    | inl e ↦ rw e (ok_path s s.mode from term at (AppendReply asked true at) came (eqb-true asked s.term e, refl) refl)
    | inr e ↦ rw e (still refl refl)
  ]
  receives_path s from term (AppendReply asked false at) less le came = elim (bool_cases (asked == s.term)) [
    | inl e ↦ rw e (refusal_path s s.mode from at refl)
    | inr e ↦ rw e (still refl refl)
  ]
  receives_path s from term (Install P) less le came = install_path s from term P le came
  receives_path s from term (InstallReply asked at) less le came = elim (bool_cases (asked == s.term)) [
    | inl e ↦ rw e (ok_path s s.mode from term at (InstallReply asked at) came (eqb-true asked s.term e, refl) refl)
    | inr e ↦ rw e (still refl refl)
  ]

  -- also of a greater term
  met_path : (s : Raft C) (from term : ℕ) (body : Body C) → from < n → WasSent sent (record { from = from; to = i; term = term; body = body }) →
      PathTo s (receives m.noop n i (term_observed term s) from term body)
  unfolding PathTo
  met_path s from term body less came = elim (bool_cases (nat_lt s.term term)) [
    | inl e ↦ rw e (after_one (record s { term = term; vote = None; known = None; mode = Follower }) (raises _ came (ltb-true s.term term e) refl refl) (λ l. absurd (cc))
        (receives_path (record s { term = term; vote = None; known = None; mode = Follower }) from term body less (omega arith) came))
    | inr e ↦ rw e (receives_path s from term body less (omega (arith, ltb-false s.term term e)) came)
  ]

  -- a timeout
  timeout_path : (s : Raft C) (turn : RaftTurn C) → times_out n i s ≡ Ok turn → PathTo s turn
  unfolding PathTo
  timeout_path s turn h = elim (bool_cases (is_leader s.mode)) [
    | inl l ↦ subst (λ t. PathTo s t) (same_ok _ _ (rw l at h)) (still refl refl)
    | inr l ↦ let h1 = rw l at h in elim (bool_cases (nat_lt s.term MAX && nat_lt (length s.log) MAX)) [
      | inl e ↦
          let a = and_parts (nat_lt s.term MAX) (nat_lt (length s.log) MAX) e in
          subst (λ t. PathTo s t) (same_ok _ _ (rw e at h1)) (only (stands (ltb-true s.term MAX a.0) (ltb-true (length s.log) MAX a.1) refl refl))
      | inr e ↦ absurd (let h2 = rw e at h1 in cc)
    ]
  ]

  -- a beat
  beats_path : (s : Raft C) (mode : Mode) → s.mode ≡ mode → PathTo s (record { server = s; sent = beats n i s mode })
  unfolding PathTo
  beats_path s Down mode = still refl refl
  beats_path s Follower mode = still refl refl
  beats_path s (Candidate votes) mode = still refl refl
  beats_path s (Leader next match) mode = only (beats_all next match mode refl refl)

  -- a proposal of a leader
  admitted_path : (s : Raft C) (command : C) (next match : List ℕ) (r : Option Refusal) (turn : RaftTurn C) → IsCommandOf m command → s.mode ≡ Leader next match → admission_refusal m s command ≡ r →
      unless r (silent (extended s command)) ≡ Ok turn → PathTo s turn
  unfolding PathTo
  admitted_path s command next match None turn is mode none h = subst (λ t. PathTo s t) (same_ok _ _ h) (only (extends next match command is mode none refl refl))
  admitted_path s command next match (Some r) turn is mode none h = absurd (cc)

  -- a proposal
  propose_path : (s : Raft C) (command : C) (mode : Mode) (turn : RaftTurn C) → IsCommandOf m command → s.mode ≡ mode → proposes m s command ≡ Ok turn → PathTo s turn
  propose_path s command Down turn is mode h = absurd (let g = rw mode at h in cc)
  propose_path s command Follower turn is mode h = absurd (let g = rw mode at h in cc)
  propose_path s command (Candidate votes) turn is mode h = absurd (let g = rw mode at h in cc)
  propose_path s command (Leader next match) turn is mode h =
      let leads : is_leader s.mode ≡ true = ap is_leader mode in
      admitted_path s command next match (admission_refusal m s command) turn is mode refl (rw leads at h)

  -- a turn
  TurnsTo : Raft C → RaftTurn C → Type 0
  TurnsTo s turn = Turns m n i sent s turn.server turn.sent

  -- each input of a server that is up
  acts_path : (s : Raft C) (input : Input C) (turn : RaftTurn C) → is_up s.mode ≡ true → CameIn m sent i input → acts m n i s input ≡ Ok turn → TurnsTo s turn
  unfolding PathTo TurnsTo
  acts_path s (Arrives message) turn up came h = elim (bool_cases (nat_lt message.from n)) [
    | inl e ↦ subst (λ t. TurnsTo s t) (same_ok _ _ (rw e at h)) (walks up (met_path s message.from message.term message.body (ltb-true message.from n e)
        (subst (λ k. WasSent sent (record { from = message.from; to = k; term = message.term; body = message.body })) came.1 came.0)))
    | inr e ↦ absurd (let g = rw e at h in cc)
  ]
  acts_path s Timeout turn up came h = walks up (timeout_path s turn h)
  acts_path s Beat turn up came h = subst (λ t. TurnsTo s t) (same_ok _ _ h) (walks up (beats_path s s.mode refl))
  acts_path s (Propose command) turn up came h = walks up (propose_path s command s.mode turn came refl h)
  acts_path s Compact turn up came h = subst (λ t. TurnsTo s t) (same_ok _ _ h) (walks up (only (covers refl refl)))
  acts_path s Crash turn up came h = subst (λ t. TurnsTo s t) (same_ok _ _ h) (resets Down tt (λ u. absurd (cc)) refl refl)
  acts_path s Restart turn up came h = absurd (cc)

  -- of one that is down
  wakes_path : (s : Raft C) (input : Input C) (turn : RaftTurn C) → is_up s.mode ≡ false → wakes s input ≡ Ok turn → TurnsTo s turn
  unfolding TurnsTo
  wakes_path s (Arrives message) turn down h = absurd (cc)
  wakes_path s Timeout turn down h = absurd (cc)
  wakes_path s Beat turn down h = absurd (cc)
  wakes_path s (Propose command) turn down h = absurd (cc)
  wakes_path s Compact turn down h = absurd (cc)
  wakes_path s Crash turn down h = absurd (cc)
  wakes_path s Restart turn down h = subst (λ t. TurnsTo s t) (same_ok _ _ h) (resets Follower tt (λ u. down) refl refl)

  -- each step is a turn
  pub step_path : (s : Raft C) (input : Input C) (turn : RaftTurn C) → CameIn m sent i input → step m n i s input ≡ Ok turn → Turns m n i sent s turn.server turn.sent
  unfolding TurnsTo
  step_path s input turn came h = elim (bool_cases (is_up s.mode)) [
    | inl e ↦ acts_path s input turn e came (rw e at h)
    | inr e ↦ wakes_path s input turn e (rw e at h)
  ]

  -- a path never takes a server down
  small_up : (s t : Raft C) (out : List (Message C)) → is_up s.mode ≡ true → Small m n i sent s t out → is_up t.mode ≡ true
  small_up s t out up (raises x came less e o) = ap (λ (x : Raft C). is_up x.mode) e
  small_up s t out up (stands term_fits index_fits e o) = ap (λ (x : Raft C). is_up x.mode) e
  small_up s t out up (grants_vote from index its_last came free newer e o) = ap (λ (x : Raft C). is_up x.mode) e ∙ up
  small_up s t out up (refuses from term request answer came h e o) = ap (λ (x : Raft C). is_up x.mode) e ∙ up
  small_up s t out up (counts votes from term less came mode e o) = ap (λ (x : Raft C). is_up x.mode) e
  small_up s t out up (wins votes mode many e o) = ap (λ (x : Raft C). is_up x.mode) e
  small_up s t out up (extends next match command is mode none e o) = ap (λ (x : Raft C). is_up x.mode) e ∙ up
  small_up s t out up (follows from e o) = ap (λ (x : Raft C). is_up x.mode) e
  small_up s t out up (takes_append from prev prev_term commit entries came mode held e o) = ap (λ (x : Raft C). is_up x.mode) e ∙ up
  small_up s t out up (takes_install from P came mode e o) = ap (λ (x : Raft C). is_up x.mode) e ∙ elim (bool_cases (nat_le (length P) s.commit)) [ inl b ↦ rw b up | inr b ↦ rw b up ]
  small_up s t out up (acks next match from term at body came ack mode e o) = ap (λ (x : Raft C). is_up x.mode) e ∙ elim (bool_cases (nat_le at (length s.log))) [ inl b ↦ rw b refl | inr b ↦ rw b up ]
  small_up s t out up (backs next match from at mode e o) = ap (λ (x : Raft C). is_up x.mode) e
  small_up s t out up (advances next match mode e o) = ap (λ (x : Raft C). is_up x.mode) e ∙ up
  small_up s t out up (covers e o) = ap (λ (x : Raft C). is_up x.mode) e ∙ up
  small_up s t out up (beats_all next match mode e o) = ap (λ (x : Raft C). is_up x.mode) e ∙ up

  -- nor does a path
  pub path_up : (t : Raft C) (out : List (Message C)) (s : Raft C) → is_up s.mode ≡ true → Path m n i sent s t out → is_up t.mode ≡ true
  path_up t out s up (still e o) = ap (λ (x : Raft C). is_up x.mode) e ∙ up
  path_up t out s up (only x) = small_up s t out up x
  path_up t out s up (after_one r x passes p) = path_up t out r (small_up s r [] up x) p

  -- who goes down has committed no more than before
  pub turns_down : (s t : Raft C) (out : List (Message C)) → s.covered ≤ s.commit → Turns m n i sent s t out → is_up t.mode ≡ false → t.commit ≤ s.commit
  turns_down s t out based (walks up p) down = absurd (true≢false (sym (path_up t out s up p) ∙ down))
  turns_down s t out based (resets mode h up e o) down = let c = ap (λ (x : Raft C). x.commit) e in omega (arith, c, based)
