-- What the one server that asks makes of calm inputs.
use Rattle.std.proofs.Common.{◌≡◌, ℕ, zero, suc, ◌+◌, ◌-◌, ◌≤◌, ◌⊎◌, inl, inr, max, true, false, ◌&&◌, nat_le, nat_lt, ◌==◌, Option, Some, None, Ok, List, [], ◌∷◌, ◌++◌, length, take, drop, refl, sym, ap, ◌∙◌, subst, arith, slice_get, slice_set}
use Rattle.std.proofs.lemmas.Bool.{ltb-true, ltb-false}
use Rattle.std.proofs.lemmas.Bool.Decides.{leb_tells}
use Rattle.rows.specs.declared.refusal.Refusal.{Refusal}
use Rattle.machine_model.specs.MachineSpec.{MachineSpec}
use Rattle.machine_model.specs.declared.entry.Entry.{Entry}
use Rattle.raft_model.specs.Logs.{MAX, term_at, last_term}
use Rattle.raft_model.specs.Quorums.{is_quorum, marked, index_at}
use Rattle.raft_model.specs.Messages.{Message, Body, VoteRequest, VoteReply, Append, AppendReply, Install, InstallReply}
use Rattle.raft_model.specs.Rafts.{Raft, RaftTurn, Mode, Down, Follower, Candidate, Leader, is_up, is_leader, silent, term_observed, election_started, vote_request_to, counted, advanced_in, after_append_ok, after_append_refusal, beats, beat_body, beat_message, compacted, extended}
use Rattle.raft_model.specs.Steps.{Timeout, Propose, receives, step, admission_refusal, unless}
use Rattle.raft_model.proofs.Cases.{bool_cases, same_ok}
use Rattle.raft_safety.specs.Claims.{Limits}
use Rattle.raft_safety.proofs.Frame.{term_zero}
use Rattle.raft_safety.proofs.LeaderSteps.{length_take}
use Rattle.raft_safety.proofs.Places.{push_length, to_others_is}
use Rattle.raft_progress.specs.Campaign.{IsStanding}
use Rattle.raft_progress.proofs.Answering.{met_log}
use Rattle.raft_progress.proofs.Choosing.{Ends}
use Rattle.raft_progress.proofs.Leaders.{last_push, Facts}
use Rattle.raft_progress.proofs.CalmSteps.{term_take, term_drop, Carries, IsReply}

-- the log stays, or an entry comes that is no older
abbrev pub Grown : {C : Type 0} → List (Entry C) → List (Entry C) → Type 0
Grown {C} X Y = (Y ≡ X) ⊎ ((e : Entry C) × (Y ≡ X ++ e ∷ []) × (last_term X ≤ e.term))

module _ {C : Type 0} where
  -- what is no newer than a log is no newer than the log grown
  pub ends_grow : (index last : ℕ) (X Y : List (Entry C)) → Grown X Y → Ends index last X → Ends index last Y
  ends_grow index last X Y (inl same) h = subst (λ l. Ends index last l) (sym same) h
  ends_grow index last X Y (inr g) h =
      let e = g.0 in
      let new : last_term Y ≡ e.term = ap last_term g.1 ∙ last_push X e in
      let size : length Y ≡ suc (length X) = ap length g.1 ∙ push_length X e in
      elim h [
        | inl less ↦ inl (omega (arith, less, new, g.2))
        | inr q ↦ elim (leb_tells (suc last) (last_term Y)) [
          | inl z ↦ inl z.1
          | inr z ↦ inr (omega (arith, z.1, q.0, new, g.2), omega (arith, size, q.1))
        ]
      ]

  pub carries_grow : (X Y : List (Entry C)) → Grown X Y → (b : Body C) → Carries b X → Carries b Y
  unfolding Carries
  carries_grow X Y g (VoteRequest index its_last) c = tt
  carries_grow X Y g (VoteReply asked granted) c = absurd c
  carries_grow X Y g (Append prev prev_term commit entries) c = λ some. ends_grow (prev + length entries) (last_term entries) X Y g (c some)
  carries_grow X Y g (AppendReply asked ok at) c = absurd c
  carries_grow X Y g (Install P) c = ends_grow (length P) (last_term P) X Y g c
  carries_grow X Y g (InstallReply asked at) c = absurd c

-- server i's own turn
pub record Acts {C : Type 0} (i : ℕ) (me : Raft C) (turn : RaftTurn C) : Type 0 where
  pub up : is_up turn.server.mode ≡ true
  pub log : Grown me.log turn.server.log
  pub stands : turn.server.term ≡ me.term → IsStanding me.mode → IsStanding turn.server.mode
  pub says : (p : ℕ) (y : Message C) → slice_get turn.sent p ≡ Some y → (y.from ≡ i) × (y.term ≡ turn.server.term) × Carries y.body turn.server.log

module _ {S C : Type 0} (m : MachineSpec S C) (n i : ℕ) where
  -- from the server that a reply finds to the server after it
  record Onto (r t : Raft C) : Type 0 where
    log : (t.log ≡ r.log) ⊎ ((e : Entry C) × (t.log ≡ r.log ++ e ∷ []) × (e.term ≡ r.term))
    term : t.term ≡ r.term
    up : is_up r.mode ≡ true → is_up t.mode ≡ true
    stands : IsStanding r.mode → IsStanding t.mode

  onto_self : (r : Raft C) → Onto r r
  onto_self r = record { log = inl refl; term = refl; up = λ h. h; stands = λ h. h }

  -- as r, but in a mode that stands
  onto_mode : (r t : Raft C) → t.log ≡ r.log → t.term ≡ r.term → is_up t.mode ≡ true → IsStanding t.mode → Onto r t
  onto_mode r t log term up stands = record { log = inl log; term = term; up = λ h. up; stands = λ h. stands }

  module _ (r : Raft C) (k : ℕ) where
    counted_onto : (mode : Mode) → r.mode ≡ mode → Onto r (counted m.noop n r k mode)
    counted_onto Down e = onto_self r
    counted_onto Follower e = onto_self r
    counted_onto (Leader next match) e = onto_self r
    counted_onto (Candidate votes) e = elim (bool_cases (is_quorum n (marked (slice_set votes k true)))) [
      | inl q ↦ rw q (record { log = inr (record { term = r.term; command = m.noop }, refl, refl); term = refl; up = λ h. refl; stands = λ h. tt })
      | inr q ↦ rw q (onto_mode r (record r { mode = Candidate (slice_set votes k true) }) refl refl refl tt)
    ]

    advanced_onto : (mode : Mode) → r.mode ≡ mode → Onto r (advanced_in n i r mode)
    advanced_onto Down e = onto_self r
    advanced_onto Follower e = onto_self r
    advanced_onto (Candidate votes) e = onto_self r
    advanced_onto (Leader next match) e = record { log = inl refl; term = refl; up = λ h. h; stands = λ h. h }

    ok_onto : (at : ℕ) (mode : Mode) → r.mode ≡ mode → Onto r (after_append_ok n i r k at mode)
    ok_onto at Down e = onto_self r
    ok_onto at Follower e = onto_self r
    ok_onto at (Candidate votes) e = onto_self r
    ok_onto at (Leader next match) e = elim (bool_cases (nat_le at (length r.log))) [
      | inl b ↦ rw b (record { log = inl refl; term = refl; up = λ h. refl; stands = λ h. tt })
      | inr b ↦ rw b (advanced_onto r.mode refl)
    ]

    refusal_onto : (at : ℕ) (mode : Mode) → r.mode ≡ mode → Onto r (after_append_refusal n i r k at mode)
    refusal_onto at Down e = onto_self r
    refusal_onto at Follower e = onto_self r
    refusal_onto at (Candidate votes) e = onto_self r
    refusal_onto at (Leader next match) e = record { log = inl refl; term = refl; up = λ h. refl; stands = λ h. tt }

    reply_onto : (term : ℕ) (body : Body C) → IsReply body → ((receives m.noop n i r k term body).sent ≡ []) × Onto r (receives m.noop n i r k term body).server
    unfolding IsReply
    reply_onto term (VoteRequest index its_last) h = absurd h
    reply_onto term (VoteReply asked granting) h = (refl, elim (bool_cases ((asked == r.term) && granting)) [ inl b ↦ rw b (counted_onto r.mode refl) | inr b ↦ rw b (onto_self r) ])
    reply_onto term (Append prev prev_term commit entries) h = absurd h
    reply_onto term (AppendReply asked true at) h = (refl, elim (bool_cases (asked == r.term)) [ inl b ↦ rw b (ok_onto at r.mode refl) | inr b ↦ rw b (onto_self r) ])
    reply_onto term (AppendReply asked false at) h = (refl, elim (bool_cases (asked == r.term)) [ inl b ↦ rw b (refusal_onto at r.mode refl) | inr b ↦ rw b (onto_self r) ])
    reply_onto term (Install P) h = absurd h
    reply_onto term (InstallReply asked at) h = (refl, elim (bool_cases (asked == r.term)) [ inl b ↦ rw b (ok_onto at r.mode refl) | inr b ↦ rw b (onto_self r) ])

  module _ (me : Raft C) (up : is_up me.mode ≡ true) (limits : Limits me) where
    -- no entry is of a later term
    last_low : last_term me.log ≤ me.term
    last_low = elim (leb_tells 1 (length me.log)) [
      | inl some ↦ limits.terms (length me.log) some.1 (omega arith)
      | inr none ↦ let e : length me.log ≡ 0 = omega (arith, none.1) in omega (arith, ap (term_at me.log) e, term_zero me.log)
    ]

    -- nothing is said
    silent_says : (t : Raft C) (out : List (Message C)) → out ≡ [] → (p : ℕ) (y : Message C) → slice_get out p ≡ Some y → (y.from ≡ i) × (y.term ≡ t.term) × Carries y.body t.log
    silent_says t out o p y h = absurd (let q = subst (λ l. slice_get l p ≡ Some y) o h in cc)

    -- a reply
    pub acts_reply : (k term : ℕ) (body : Body C) → IsReply body → let turn = receives m.noop n i (term_observed term me) k term body in Acts i me turn × (turn.server.term ≡ max me.term term)
    acts_reply k term body answer =
        let r = term_observed term me in
        let o = reply_onto r k term body answer in
        let t = (receives m.noop n i (term_observed term me) k term body).server in
        let its : (term_observed term me).term ≡ max me.term term = elim (bool_cases (nat_lt me.term term)) [ inl b ↦ rw b (omega (arith, ltb-true me.term term b)) | inr b ↦ rw b (omega (arith, ltb-false me.term term b)) ] in
        let alive : is_up (term_observed term me).mode ≡ true = elim (bool_cases (nat_lt me.term term)) [ inl b ↦ rw b refl | inr b ↦ rw b up ] in
        let z = o.1 in (
          record {
            up = z.up alive;
            log = elim z.log [
              | inl same ↦ inl (same ∙ met_log term me)
              | inr g ↦ inr (g.0, g.1 ∙ ap (λ (l : List (Entry C)). l ++ g.0 ∷ []) (met_log term me), omega (arith, g.2, its, last_low))
            ];
            stands = λ same role. z.stands (elim (bool_cases (nat_lt me.term term)) [ inl b ↦ absurd (omega (arith, same, z.term, its, ltb-true me.term term b)) | inr b ↦ rw b role ]);
            says = silent_says t _ (o.0);
          },
          omega (arith, z.term, its),
        )

    -- what a leader sends is of its log
    beat_carries : (next match : List ℕ) → Facts n me next match → (to : ℕ) → Carries (beat_body me (index_at next to)) me.log
    unfolding Carries
    beat_carries next match f to = elim (bool_cases (nat_le (index_at next to) me.covered)) [
      | inl b ↦ rw b (part (length (take me.covered me.log)) (omega (arith, length_take me.covered me.log)) (last_term (take me.covered me.log)) (first (length (take me.covered me.log)) refl))
      | inr b ↦ rw b (λ some.
          let p = index_at next to - 1 in
          let es = take 32 (drop p me.log) in
          let inside : p + length es ≤ length me.log = fits p me.log some in
          part (p + length es) inside (last_term es) (inl (sym (term_drop p me.log (length es) some ∙ sym (term_take 32 (drop p me.log) (length es) some (omega arith))))))
    ]
      where
        part : (index : ℕ) → index ≤ length me.log → (last : ℕ) → (last ≡ term_at me.log index) ⊎ (last ≡ 0) → Ends index last me.log
        part index le last (inr none) = elim (leb_tells (suc last) (last_term me.log)) [ inl z ↦ inl z.1 | inr z ↦ inr (omega (arith, z.1, none), le) ]
        part index le last (inl is) = elim (leb_tells 1 index) [
          | inl one ↦ elim (leb_tells (suc last) (last_term me.log)) [ inl z ↦ inl z.1 | inr z ↦ inr (omega (arith, z.1, is, f.last, limits.terms index one.1 le), le) ]
          | inr none ↦ let e : index ≡ 0 = omega (arith, none.1) in elim (leb_tells (suc last) (last_term me.log)) [ inl z ↦ inl z.1 | inr z ↦ inr (omega (arith, z.1, is, ap (term_at me.log) e, term_zero me.log), le) ]
        ]

        first : (q : ℕ) → length (take me.covered me.log) ≡ q → (last_term (take me.covered me.log) ≡ term_at me.log (length (take me.covered me.log))) ⊎ (last_term (take me.covered me.log) ≡ 0)
        first q e = elim (leb_tells 1 (length (take me.covered me.log))) [
          | inl one ↦ inl (term_take me.covered me.log (length (take me.covered me.log)) one.1 (omega arith))
          | inr none ↦ let z : length (take me.covered me.log) ≡ 0 = omega (arith, none.1) in inr (ap (term_at (take me.covered me.log)) z ∙ term_zero (take me.covered me.log))
        ]

        fits : (p : ℕ) (X : List (Entry C)) → 1 ≤ length (take 32 (drop p X)) → p + length (take 32 (drop p X)) ≤ length X
        fits zero X some = omega (arith, length_take 32 X)
        fits (suc p) [] some = absurd (omega (arith, some))
        fits (suc p) (x ∷ X) some = omega (arith, fits p X some)

    -- a beat
    pub acts_beat : ((next match : List ℕ) → me.mode ≡ Leader next match → Facts n me next match) → Acts i me (record { server = me; sent = beats n i me me.mode })
    acts_beat facts = record { up = up; log = inl refl; stands = λ same role. role; says = by me.mode refl }
      where
        by : (mode : Mode) → me.mode ≡ mode → (p : ℕ) (y : Message C) → slice_get (beats n i me mode) p ≡ Some y → (y.from ≡ i) × (y.term ≡ me.term) × Carries y.body me.log
        by Down e p y h = absurd (cc)
        by Follower e p y h = absurd (cc)
        by (Candidate votes) e p y h = absurd (cc)
        by (Leader next match) e p y h =
            let q = to_others_is i (beat_message i me next) n p y h in
            (ap (λ (z : Message C). z.from) q.3, ap (λ (z : Message C). z.term) q.3, subst (λ (z : Message C). Carries z.body me.log) (sym q.3) (beat_carries next match (facts next match e) q.0))

    -- a compaction
    pub acts_compact : Acts i me (silent (compacted me))
    acts_compact = record { up = up; log = inl refl; stands = λ same role. role; says = silent_says (compacted me) [] refl }

    -- a proposal
    pub acts_propose : (command : C) (turn : RaftTurn C) → step m n i me (Propose command) ≡ Ok turn → Acts i me turn × (turn.server.term ≡ me.term)
    acts_propose command turn is = elim (bool_cases (is_leader me.mode)) [
      | inr l ↦ absurd (let q = rw up at is in let q2 = rw l at q in cc)
      | inl l ↦ let q = rw up at is in by (admission_refusal m me command) (rw l at q)
    ]
      where
        by : (r : Option Refusal) → unless r (silent (extended me command)) ≡ Ok turn → Acts i me turn × (turn.server.term ≡ me.term)
        by (Some r) h = absurd (cc)
        by None h = subst (λ z. Acts i me z × (z.server.term ≡ me.term)) (same_ok _ _ h)
            (record { up = up; log = inr (record { term = me.term; command = command }, refl, last_low); stands = λ same role. role; says = silent_says (extended me command) [] refl }, refl)

    -- a timeout
    pub acts_timeout : (turn : RaftTurn C) → step m n i me Timeout ≡ Ok turn → Acts i me turn × (me.term ≤ turn.server.term) × (turn.server.term ≤ suc me.term) ×
        (((turn.server ≡ me) × (is_leader me.mode ≡ true)) ⊎ ((turn.server.term ≡ suc me.term) × IsStanding turn.server.mode))
    unfolding Carries
    acts_timeout turn is = elim (bool_cases (is_leader me.mode)) [
      | inl l ↦ let q = rw up at is in subst (λ z. Acts i me z × (me.term ≤ z.server.term) × (z.server.term ≤ suc me.term) × (((z.server ≡ me) × (is_leader me.mode ≡ true)) ⊎ ((z.server.term ≡ suc me.term) × IsStanding z.server.mode)))
          (same_ok _ _ (rw l at q)) (record { up = up; log = inl refl; stands = λ same role. role; says = silent_says me [] refl }, omega arith, omega arith, inl (refl, l))
      | inr l ↦ let q = rw up at is in let q2 = rw l at q in elim (bool_cases (nat_lt me.term MAX && nat_lt (length me.log) MAX)) [
        | inr full ↦ absurd (let q3 = rw full at q2 in cc)
        | inl room ↦ subst (λ z. Acts i me z × (me.term ≤ z.server.term) × (z.server.term ≤ suc me.term) × (((z.server ≡ me) × (is_leader me.mode ≡ true)) ⊎ ((z.server.term ≡ suc me.term) × IsStanding z.server.mode)))
            (same_ok _ _ (rw room at q2)) (
              record {
                up = refl;
                log = inl refl;
                stands = λ same role. tt;
                says = λ p y h. let t = to_others_is i (vote_request_to i (election_started n i me)) n p y h in
                    (ap (λ (z : Message C). z.from) t.3, ap (λ (z : Message C). z.term) t.3, subst (λ (z : Message C). Carries z.body me.log) (sym t.3) tt);
              },
              omega arith,
              omega arith,
              inr (refl, tt),
            )
      ]
    ]
