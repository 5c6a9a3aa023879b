-- What servers make of calm inputs: one that only answers, and the one that asks.
use Rattle.std.proofs.Common.{◌≡◌, ℕ, zero, suc, ◌+◌, ◌<◌, ◌≤◌, ◌⊎◌, inl, inr, max, Bool, true, false, ◌||◌, nat_le, nat_lt, ◌==◌, List, [], ◌∷◌, ◌++◌, length, take, drop, refl, sym, ap, ◌∙◌, subst, arith, length-take-le}
use Rattle.std.proofs.lemmas.Bool.{ltb-true, ltb-false, leb-true, eq-eqb, and_parts}
use Rattle.std.proofs.lemmas.Bool.Decides.{leb_tells}
use Rattle.std.proofs.lemmas.List.{length-append}
use Rattle.machine_model.specs.MachineSpec.{MachineSpec}
use Rattle.machine_model.specs.declared.entry.Entry.{Entry}
use Rattle.raft_model.specs.Logs.{term_at, last_term, has, merge, install}
use Rattle.raft_model.specs.Messages.{Body, VoteRequest, VoteReply, Append, AppendReply, Install, InstallReply}
use Rattle.raft_model.specs.Rafts.{Raft, RaftTurn, is_up, is_leader, silent, reply, term_observed, is_free_for, grants, granted, following, is_held, appended}
use Rattle.raft_model.specs.Steps.{receives}
use Rattle.raft_model.proofs.Cases.{bool_cases}
use Rattle.raft_safety.proofs.LeaderSteps.{length_drop}
use Rattle.raft_progress.proofs.Leaders.{term_next, term_behind}
use Rattle.raft_progress.proofs.Choosing.{Ends}
use Rattle.raft_progress.proofs.Answering.{met_log, met_commit}

module _ {C : Type 0} where
  -- the first entries of a list
  pub term_take : (a : ℕ) (X : List (Entry C)) (q : ℕ) → 1 ≤ q → q ≤ length (take a X) → term_at (take a X) q ≡ term_at X q
  unfolding term_at
  term_take zero X q one le = absurd (omega (arith, one, le))
  term_take (suc a) [] q one le = absurd (omega (arith, one, le))
  term_take (suc a) (x ∷ X) zero one le = absurd (omega (arith, one))
  term_take (suc a) (x ∷ X) (suc zero) one le = refl
  term_take (suc a) (x ∷ X) (suc (suc q)) one le = term_take a X (suc q) (omega arith) (omega (arith, le))

  -- what follows p entries
  pub term_drop : (p : ℕ) (X : List (Entry C)) (q : ℕ) → 1 ≤ q → term_at X (p + q) ≡ term_at (drop p X) q
  unfolding term_at
  term_drop zero X q one = ap (term_at X) (let e : 0 + q ≡ q = omega arith in e)
  term_drop (suc p) [] q one = refl
  term_drop (suc p) (x ∷ X) q one =
      let e : suc p + q ≡ suc (p + q) = omega arith in
      ap (term_at (x ∷ X)) e ∙ (term_next x X (p + q) (omega (arith, one)) ∙ term_drop p X q one)

  -- the end of a log that took up entries
  merge_end : (c p : ℕ) (log es : List (Entry C)) → c ≤ length log → p ≤ length log →
      (merge c p log es ≡ log) ⊎ ((length (merge c p log es) ≡ p + length es) × (last_term (merge c p log es) ≡ last_term es) × (1 ≤ length es))
  unfolding merge
  merge_end c p log [] fits le = inl refl
  merge_end c p log (e ∷ es) fits le = by (λ next. merge_end c (suc p) log es fits next) (nat_le (suc p) c || has log (suc p) e.term) refl
    where
      within : (nat_le (suc p) c || has log (suc p) e.term) ≡ true → suc p ≤ length log
      within test = elim (bool_cases (nat_le (suc p) c)) [
        | inl b ↦ omega (arith, fits, leb-true (suc p) c b)
        | inr b ↦
            let r : has log (suc p) e.term ≡ true = rw b at test in
            let a = and_parts (nat_le (suc p) (length log)) (term_at log (suc p) == e.term) r in
            leb-true (suc p) (length log) a.0
      ]

      by : (suc p ≤ length log → (merge c (suc p) log es ≡ log) ⊎ ((length (merge c (suc p) log es) ≡ suc p + length es) × (last_term (merge c (suc p) log es) ≡ last_term es) × (1 ≤ length es))) →
          (t : Bool) → (nat_le (suc p) c || has log (suc p) e.term) ≡ t →
          (merge c p log (e ∷ es) ≡ log) ⊎ ((length (merge c p log (e ∷ es)) ≡ p + length (e ∷ es)) × (last_term (merge c p log (e ∷ es)) ≡ last_term (e ∷ es)) × (1 ≤ length (e ∷ es)))
      by old true test = rw test (elim (old (within test)) [
        | inl same ↦ inl same
        | inr z ↦ inr (omega (arith, z.0), z.1 ∙ sym (term_next e es (length es) z.2), omega arith)
      ])
      by old false test = rw test (
          let size : length (take p log) ≡ p = length-take-le p log le in
          let all : length (take p log ++ e ∷ es) ≡ length (take p log) + length (e ∷ es) = length-append (take p log) (e ∷ es) in
          inr (omega (arith, all, size), ap (term_at (take p log ++ e ∷ es)) all ∙ term_behind (take p log) (e ∷ es) (length (e ∷ es)) (omega arith), omega arith))

  -- the last entry of the first of two lists
  first : (X Y : List (Entry C)) → term_at (X ++ Y) (length X) ≡ term_at X (length X)
  unfolding term_at
  first [] [] = refl
  first [] (y ∷ Y) = refl
  first (x ∷ []) Y = refl
  first (x ∷ (z ∷ X)) Y = term_next x ((z ∷ X) ++ Y) (suc (length X)) (omega arith) ∙ (first (z ∷ X) Y ∙ sym (term_next x (z ∷ X) (suc (length X)) (omega arith)))

  -- the end of a log after a snapshot
  install_end : (log P : List (Entry C)) → ((length (install log P) ≡ length log) × (last_term (install log P) ≡ last_term log)) ⊎ ((length (install log P) ≡ length P) × (last_term (install log P) ≡ last_term P))
  unfolding install
  install_end log P = elim (bool_cases (has log (length P) (last_term P))) [
    | inr b ↦ rw b (inr (refl, refl))
    | inl b ↦
        let a = and_parts (nat_le (length P) (length log)) (term_at log (length P) == last_term P) b in
        let le = leb-true (length P) (length log) a.0 in
        let rest = length_drop (length P) log le in
        let all : length (P ++ drop (length P) log) ≡ length P + length (drop (length P) log) = length-append P (drop (length P) log) in
        let size : length (P ++ drop (length P) log) ≡ length log = omega (arith, all, rest) in
        rw b (elim (leb_tells (length log) (length P)) [
          | inl e ↦
              let same : length (P ++ drop (length P) log) ≡ length P = omega (arith, size, e.1, le) in
              inr (same, ap (term_at (P ++ drop (length P) log)) same ∙ first P (drop (length P) log))
          | inr e ↦ inl (
            size,
            ap (term_at (P ++ drop (length P) log)) all ∙ (term_behind P (drop (length P) log) (length (drop (length P) log)) (omega (arith, e.1, rest)) ∙
                (sym (term_drop (length P) log (length (drop (length P) log)) (omega (arith, e.1, rest))) ∙ ap (term_at log) rest)),
          )
        ])
  ]

  -- what is asked, with nothing newer than this log
  unfoldable pub Carries : Body C → List (Entry C) → Type 0
  Carries (VoteRequest index its_last) L = Unit {0}
  Carries (VoteReply asked granted) L = ⊥
  Carries (Append prev prev_term commit entries) L = 1 ≤ length entries → Ends (prev + length entries) (last_term entries) L
  Carries (AppendReply asked ok at) L = ⊥
  Carries (Install P) L = Ends (length P) (last_term P) L
  Carries (InstallReply asked at) L = ⊥

  -- answers
  unfoldable pub IsReply : Body C → Type 0
  IsReply (VoteRequest index its_last) = ⊥
  IsReply (VoteReply asked granted) = Unit {0}
  IsReply (Append prev prev_term commit entries) = ⊥
  IsReply (AppendReply asked ok at) = Unit {0}
  IsReply (Install P) = ⊥
  IsReply (InstallReply asked at) = Unit {0}

-- its vote in term T is not another's
abbrev pub Free : {C : Type 0} → ℕ → ℕ → Raft C → Type 0
Free i T s = (s.term < T) ⊎ ((s.term ≡ T) × (is_free_for s.vote i ≡ true))

-- server j, asked by server i
pub record Heeds {C : Type 0} (j i : ℕ) (s : Raft C) (term : ℕ) (body : Body C) (turn : RaftTurn C) : Type 0 where
  pub up : is_up turn.server.mode ≡ true
  pub term_is : turn.server.term ≡ max s.term term
  pub log : (L : List (Entry C)) → Ends (length s.log) (last_term s.log) L → Carries body L → Ends (length turn.server.log) (last_term turn.server.log) L
  pub says : (turn.sent ≡ []) ⊎ ((b : Body C) × (turn.sent ≡ record { from = j; to = i; term = turn.server.term; body = b } ∷ []) × IsReply b)
  pub free : (T : ℕ) → term ≤ T → Free i T s → Free i T turn.server

module _ {S C : Type 0} (m : MachineSpec S C) (n j i : ℕ) (s : Raft C) (up : is_up s.mode ≡ true) (within : s.commit ≤ length s.log) (term : ℕ) where
  r : Raft C
  r = term_observed term s

  r_term : r.term ≡ max s.term term
  unfolding r
  r_term = elim (bool_cases (nat_lt s.term term)) [ inl b ↦ rw b (omega (arith, ltb-true s.term term b)) | inr b ↦ rw b (omega (arith, ltb-false s.term term b)) ]

  r_up : is_up r.mode ≡ true
  unfolding r
  r_up = elim (bool_cases (nat_lt s.term term)) [ inl b ↦ rw b refl | inr b ↦ rw b up ]

  r_free : (T : ℕ) → term ≤ T → Free i T s → Free i T r
  unfolding r
  r_free T le f = elim (bool_cases (nat_lt s.term term)) [
    | inl b ↦ rw b (elim (leb_tells T term) [ inl e ↦ inr (omega (arith, le, e.1), refl) | inr e ↦ inl (omega (arith, e.1)) ])
    | inr b ↦ rw b f
  ]

  r_log : r.log ≡ s.log
  unfolding r
  r_log = met_log term s

  r_fits : r.commit ≤ length r.log
  unfolding r
  r_fits = omega (arith, met_commit term s, ap length (met_log term s), within)

  -- its log as it was
  kept : (t : Raft C) (body : Body C) → t.log ≡ r.log → (L : List (Entry C)) → Ends (length s.log) (last_term s.log) L → Carries body L → Ends (length t.log) (last_term t.log) L
  kept t body same L e c = subst (λ (l : List (Entry C)). Ends (length l) (last_term l) L) (sym (same ∙ r_log)) e

  same_free : (t : Raft C) → t.term ≡ r.term → t.vote ≡ r.vote → (T : ℕ) → term ≤ T → Free i T s → Free i T t
  same_free t its vote T le f = elim (r_free T le f) [
    | inl z ↦ inl (omega (arith, z, its))
    | inr z ↦ inr (its ∙ z.0, ap (λ v. is_free_for v i) vote ∙ z.1)
  ]

  -- an answer
  answered : (t : Raft C) (body b : Body C) → is_up t.mode ≡ true → t.term ≡ r.term → t.vote ≡ r.vote → ((L : List (Entry C)) → Ends (length s.log) (last_term s.log) L → Carries body L → Ends (length t.log) (last_term t.log) L) →
      IsReply b → Heeds j i s term body (reply j t i b)
  answered t body b its_up its vote log answer = record {
    up = its_up;
    term_is = its ∙ r_term;
    log = log;
    says = inr (b, refl, answer);
    free = same_free t its vote;
  }

  -- silence
  quiet : (body : Body C) → Heeds j i s term body (silent r)
  quiet body = record { up = r_up; term_is = r_term; log = kept r body refl; says = inl refl; free = r_free }

  heeds_request : (index its_last : ℕ) → Heeds j i s term (VoteRequest index its_last) (receives m.noop n j r i term (VoteRequest index its_last))
  unfolding IsReply
  heeds_request index its_last = by (grants r i term index its_last)
    where
      by : (b : Bool) → Heeds j i s term (VoteRequest index its_last) (reply j (granted r i b) i (VoteReply term b))
      by false = answered r (VoteRequest index its_last) (VoteReply term false) r_up refl refl (kept r (VoteRequest index its_last) refl) tt
      by true = record {
        up = r_up;
        term_is = r_term;
        log = kept (granted r i true) (VoteRequest index its_last) refl;
        says = inr (VoteReply term true, refl, tt);
        free = λ T le f. elim (r_free T le f) [ inl z ↦ inl z | inr z ↦ inr (z.0, eq-eqb i i refl) ];
      }

  heeds_append : (prev prev_term commit : ℕ) (es : List (Entry C)) → Heeds j i s term (Append prev prev_term commit es) (receives m.noop n j r i term (Append prev prev_term commit es))
  unfolding IsReply Carries
  heeds_append prev prev_term commit es = elim (bool_cases (nat_lt term r.term)) [
    | inl b ↦ rw b (answered r body (AppendReply term false 0) r_up refl refl (kept r body refl) tt)
    | inr b ↦ rw b (elim (bool_cases (is_leader r.mode)) [
      | inl l ↦ rw l (quiet body)
      | inr l ↦ rw l (elim (bool_cases (is_held (following r i) prev prev_term)) [
        | inr h ↦ rw h (answered (following r i) body _ refl refl refl (kept (following r i) body refl) tt)
        | inl h ↦ rw h (answered (appended (following r i) prev commit es) body _ refl refl refl (merged h) tt)
      ])
    ])
  ]
    where
      body : Body C
      body = Append prev prev_term commit es

      prev_fits : is_held (following r i) prev prev_term ≡ true → prev ≤ length r.log
      prev_fits h = elim (bool_cases (nat_le prev r.commit)) [
        | inl b ↦ omega (arith, r_fits, leb-true prev r.commit b)
        | inr b ↦
            let q : has r.log prev prev_term ≡ true = rw b at h in
            let a = and_parts (nat_le prev (length r.log)) (term_at r.log prev == prev_term) q in
            leb-true prev (length r.log) a.0
      ]

      merged : is_held (following r i) prev prev_term ≡ true → (L : List (Entry C)) → Ends (length s.log) (last_term s.log) L → Carries body L → Ends (length (merge r.commit prev r.log es)) (last_term (merge r.commit prev r.log es)) L
      merged h L e c = elim (merge_end r.commit prev r.log es r_fits (prev_fits h)) [
        | inl same ↦ subst (λ (l : List (Entry C)). Ends (length l) (last_term l) L) (sym (same ∙ r_log)) e
        | inr z ↦ elim (c z.2) [ inl less ↦ inl (omega (arith, z.1, less)) | inr q ↦ inr (z.1 ∙ q.0, omega (arith, z.0, q.1)) ]
      ]

  heeds_install : (P : List (Entry C)) → Heeds j i s term (Install P) (receives m.noop n j r i term (Install P))
  unfolding IsReply Carries
  heeds_install P = elim (bool_cases (nat_lt term r.term)) [
    | inl b ↦ rw b (answered r (Install P) (InstallReply term 0) r_up refl refl (kept r (Install P) refl) tt)
    | inr b ↦ rw b (elim (bool_cases (is_leader r.mode)) [
      | inl l ↦ rw l (quiet (Install P))
      | inr l ↦ rw l (elim (bool_cases (nat_le (length P) r.commit)) [
        | inl h ↦ rw h (answered (following r i) (Install P) _ refl refl refl (kept (following r i) (Install P) refl) tt)
        | inr h ↦ rw h (answered _ (Install P) _ refl refl refl fresh tt)
      ])
    ])
  ]
    where
      fresh : (L : List (Entry C)) → Ends (length s.log) (last_term s.log) L → Carries (Install P) L → Ends (length (install r.log P)) (last_term (install r.log P)) L
      fresh L e c = elim (install_end r.log P) [
        | inl z ↦ elim e [ inl less ↦ inl (omega (arith, z.1, ap last_term r_log, less)) | inr q ↦ inr (z.1 ∙ (ap last_term r_log ∙ q.0), omega (arith, z.0, ap length r_log, q.1)) ]
        | inr z ↦ elim c [ inl less ↦ inl (omega (arith, z.1, less)) | inr q ↦ inr (z.1 ∙ q.0, omega (arith, z.0, q.1)) ]
      ]

  pub heeds : (L : List (Entry C)) (body : Body C) → Carries body L → Heeds j i s term body (receives m.noop n j (term_observed term s) i term body)
  unfolding Carries r
  heeds L (VoteRequest index its_last) c = heeds_request index its_last
  heeds L (VoteReply asked granting) c = absurd c
  heeds L (Append prev prev_term commit es) c = heeds_append prev prev_term commit es
  heeds L (AppendReply asked ok at) c = absurd c
  heeds L (Install P) c = heeds_install P
  heeds L (InstallReply asked at) c = absurd c
