-- A leader writes: the win with its no-op, and a proposal.
use Rattle.std.proofs.Common.{◌≡◌, ◌≢◌, ℕ, suc, ◌<◌, ◌≤◌, ◌⊎◌, inl, inr, Bool, true, Option, Some, None, List, [], ◌∷◌, ◌++◌, length, take, refl, sym, ap, ◌∙◌, subst, arith, replicate, length-append, take_all}
use Rattle.std.proofs.lemmas.Bool.Decides.{leb_tells}
use Rattle.std.proofs.lemmas.Option.{same_Some}
use Rattle.machine_model.specs.declared.entry.Entry.{Entry}
use Rattle.raft_model.specs.Logs.{MAX, term_at}
use Rattle.raft_model.specs.Quorums.{marked, index_at, is_quorum}
use Rattle.raft_model.specs.Messages.{Message}
use Rattle.raft_model.specs.Rafts.{Raft, Mode, Candidate, Leader, is_leader, won}
use Rattle.raft_safety.specs.Inner.Functions.{with_at, with_both}
use Rattle.raft_model.specs.Chains.{Agree}
use Rattle.raft_safety.specs.Inner.Agreement.{Rooted}
use Rattle.raft_safety.specs.Inner.Ballots.{Ballots, Elected, VoterMode}
use Rattle.raft_safety.specs.Inner.History.{History, HasOrDead, Ledgers, Extends, DiffersAt}
use Rattle.raft_safety.specs.Inner.Invariants.{LogOk, CandidateOk, LeaderOk, ModeOk, ServerOk, KeepsHistory}
use Rattle.raft_safety.proofs.Functions.{at_same, at_cases, at_other, both_cases, both_same, both_other, both_else}
use Rattle.raft_safety.proofs.Logs.{agree_none, agree_sym, agree_trans, agree_less, agree_term, rooted_at}
use Rattle.raft_safety.proofs.Quorums.{quorum_told}
use Rattle.raft_safety.proofs.Places.{index_at_replicate, take_append, push_length}
use Rattle.raft_safety.proofs.Growth.{carries_on, carries_grow, fixed_on, win_carries}
use Rattle.raft_safety.proofs.Voters.{elected_on, one_elected}
use Rattle.raft_safety.proofs.VoterSteps.{VotesKept}
use Rattle.raft_safety.proofs.Frame.{agree_self, fixed_grow, rooted_on}
use Rattle.raft_safety.proofs.QuietSteps.{as_leader, as_candidate}

-- a list of no length
pub none_is : {A : Type 0} (X : List A) → length X ≤ 0 → X ≡ []
none_is [] h = refl
none_is (x ∷ X) h = absurd (omega (arith, h))

-- the term has no other leader
pub led_by : (o : Option ℕ) (i c : ℕ) → (o ≡ None) ⊎ (o ≡ Some i) → o ≡ Some c → c ≡ i
led_by o i c (inl e) h = absurd (cc)
led_by o i c (inr e) h = sym (same_Some i c (sym e ∙ h))

module _ {C : Type 0} where
  -- a first part of a longer list
  pub agree_append : (k : ℕ) (A B : List (Entry C)) → k ≤ length A → Agree k A (A ++ B)
  agree_append k A B le = record { left = le; right = omega (arith, le, length-append A B); same = take_append k A B le }

  -- the last entry's term
  pub term_push : (A : List (Entry C)) (e : Entry C) → term_at (A ++ e ∷ []) (suc (length A)) ≡ e.term
  unfolding term_at
  term_push [] e = refl
  term_push (a ∷ A) e = term_push A e

  -- the history in which server i leads term t, and has written X
  unfoldable pub write : History C → Ballots → ℕ → ℕ → List (Entry C) → History C
  write G B t i X = record { ballots = B; stood = G.stood; leader = with_at G.leader t (Some i); ledger = with_at G.ledger t X; held = with_both G.held t i (length X) }

module _ {C : Type 0} (P : List (Entry C) → Type 0) (n : ℕ) (G : History C) (i : ℕ) (s : Raft C) (I : Ledgers n G) (ok : ServerOk n G i s) (e : Entry C) (its : e.term ≡ s.term)
    (told : (G.leader s.term ≡ None) ⊎ (G.leader s.term ≡ Some i))
    (grows : Agree (length (G.ledger s.term)) (G.ledger s.term) (s.log ++ e ∷ []))
    (short : G.held s.term i ≤ length (s.log ++ e ∷ []))
    (carry : (u k : ℕ) → u < s.term → 1 ≤ k → HasOrDead n G u k s.log)
    (sound : ((u : ℕ) → P (G.ledger u)) → P (s.log ++ e ∷ [])) where
  -- the log with its new entry
  X : List (Entry C)
  X = s.log ++ e ∷ []

  module _ (next match : List ℕ) (mode : Mode) (is : mode ≡ Leader next match) (out : List (Message C)) (o : out ≡ [])
      (matched : (j : ℕ) → j < n → j ≢ i → index_at match j ≤ G.held s.term j)
      (next_from : (j : ℕ) → j < n → j ≢ i → 1 ≤ index_at next j)
      (next_to : (j : ℕ) → j < n → j ≢ i → index_at next j ≤ suc (length (s.log ++ e ∷ [])))
      (v : let r : Raft C = record s { log = s.log ++ e ∷ []; mode = mode } in VotesKept n G.ballots i r out) where
    -- the ballots then
    B : Ballots
    B = v.votes.after

    -- the history then
    H : History C
    H = write G B s.term i X

    -- nothing is taken back
    extends : Extends G H
    unfolding H B X write
    extends = record {
      ballots = v.votes.grow;
      ledgers = λ u. elim (at_cases G.ledger s.term X u) [
        | inl q ↦ subst (λ Y. Agree (length (G.ledger u)) (G.ledger u) Y) (sym q.1) (subst (λ w. Agree (length (G.ledger w)) (G.ledger w) X) (sym q.0) grows)
        | inr q ↦ subst (λ Y. Agree (length (G.ledger u)) (G.ledger u) Y) (sym q.1) (agree_self (G.ledger u))
      ];
      held = λ u j. elim (both_cases G.held s.term i (length X) u j) [
        | inl q ↦ let a : G.held u j ≡ G.held s.term i = ap (λ w. G.held w j) q.0 ∙ ap (G.held s.term) q.1 in omega (arith, a, q.2, short)
        | inr q ↦ omega (arith, q.1)
      ];
      left = λ u j less. elim (both_cases G.held s.term i (length X) u j) [
        | inl q ↦ absurd (let a : G.ballots.term j ≡ s.term = ap G.ballots.term q.1 ∙ sym ok.voter.now in omega (arith, a, q.0, less))
        | inr q ↦ q.1
      ];
      stood = λ t c L h. h;
      leaders = λ u c h. elim (at_cases G.leader s.term (Some i) u) [
        | inl q ↦ q.1 ∙ ap Some (sym (led_by (G.leader s.term) i c told (ap G.leader (sym q.0) ∙ h)))
        | inr q ↦ q.1 ∙ h
      ];
    }

    -- nothing but of this server
    apart : DiffersAt i G H
    unfolding H B X write
    apart = record {
      ballots = v.votes.apart;
      stood = λ j u other. refl;
      held = λ j u other. both_other G.held s.term i (length X) u j other;
      leaders = λ j u other h. elim (at_cases G.leader s.term (Some i) u) [
        | inl q ↦ absurd (other (sym (same_Some i j (sym q.1 ∙ h))))
        | inr q ↦ sym q.1 ∙ h
      ];
      ledgers = λ j u other h. elim (at_cases G.ledger s.term X u) [
        | inl q ↦ absurd (other (led_by (G.leader s.term) i j told (ap G.leader (sym q.0) ∙ h)))
        | inr q ↦ q.1
      ];
    }

    -- the ledger is the log
    now : H.ledger s.term ≡ X
    unfolding H write
    now = at_same G.ledger s.term X

    -- one more
    size : length X ≡ suc (length s.log)
    unfolding X
    size = push_length s.log e

    -- it begins with the old one
    longer : (k : ℕ) → k ≤ length s.log → Agree k s.log X
    unfolding X
    longer k le = agree_append k s.log (e ∷ []) le

    -- old terms stay
    same_term : (p : ℕ) → 1 ≤ p → p ≤ length s.log → term_at s.log p ≡ term_at X p
    same_term p one le = agree_term p p s.log X (longer p le) one (omega arith)

    -- the new entry's term
    last_term_is : (p : ℕ) → p ≡ suc (length s.log) → term_at X p ≡ s.term
    unfolding X
    last_term_is p h = ap (term_at (s.log ++ e ∷ [])) h ∙ (term_push s.log e ∙ its)

    -- no term is above its own
    X_terms : (p : ℕ) → 1 ≤ p → p ≤ length X → term_at X p ≤ s.term
    X_terms p one le = elim (leb_tells p (length s.log)) [
      | inl a ↦ omega (arith, ok.log.terms p one a.1, same_term p one a.1)
      | inr a ↦ omega (arith, last_term_is p (omega (arith, le, size, a.1)))
    ]

    -- each entry brings its first part
    X_rooted : Rooted H.ledger X
    unfolding Rooted
    X_rooted p one le = elim (leb_tells p (length s.log)) [
      | inl a ↦
          let r : Rooted H.ledger s.log = rooted_on G H s.log extends ok.log.rooted in
          agree_trans (agree_sym (longer p a.1)) (subst (λ t. Agree p s.log (H.ledger t)) (same_term p one a.1) (r p one a.1))
      | inr a ↦ subst (λ t. Agree p X (H.ledger t)) (sym (last_term_is p (omega (arith, le, size, a.1)))) (subst (λ Y. Agree p X Y) (sym now) (agree_less p le (agree_self X)))
    ]

    -- it carries what earlier terms may have chosen
    X_carries : (u k : ℕ) → u < s.term → 1 ≤ k → HasOrDead n H u k X
    X_carries u k less one = carries_on n G H u k X extends one (carries_grow n G u k s.log X (longer (length s.log) (omega arith)) (carry u k less one))

    -- its leader was elected
    chosen_leader : Elected n B s.term i
    unfolding B VoterMode
    chosen_leader = let a : VoterMode n v.votes.after i s.term (Leader next match) = subst (λ y. VoterMode n v.votes.after i s.term y) is v.votes.own.role in a

    -- all ledgers
    ledgers : Ledgers n H
    unfolding H write
    ledgers = record {
      terms = λ u p. elim (at_cases G.ledger s.term X u) [
        | inl q ↦ subst (λ Y. 1 ≤ p → p ≤ length Y → term_at Y p ≤ u) (sym q.1) (subst (λ w. 1 ≤ p → p ≤ length X → term_at X p ≤ w) (sym q.0) (X_terms p))
        | inr q ↦ subst (λ Y. 1 ≤ p → p ≤ length Y → term_at Y p ≤ u) (sym q.1) (I.terms u p)
      ];
      rooted = λ u. elim (at_cases G.ledger s.term X u) [
        | inl q ↦ subst (λ Y. Rooted (with_at G.ledger s.term X) Y) (sym q.1) X_rooted
        | inr q ↦ subst (λ Y. Rooted (with_at G.ledger s.term X) Y) (sym q.1) (rooted_on G H (G.ledger u) extends (I.rooted u))
      ];
      unled = λ u h. elim (at_cases G.leader s.term (Some i) u) [
        | inl q ↦ absurd (cc)
        | inr q ↦ ap length (at_other G.ledger s.term X u q.0) ∙ I.unled u (sym q.1 ∙ h)
      ];
      led = λ u c h. elim (at_cases G.leader s.term (Some i) u) [
        | inl q ↦ omega (arith, ap (λ w. length (with_at G.ledger s.term X w)) q.0, ap length (at_same G.ledger s.term X), size)
        | inr q ↦ omega (arith, ap length (at_other G.ledger s.term X u q.0), I.led u c (sym q.1 ∙ h))
      ];
      elected = λ u c h. elim (at_cases G.leader s.term (Some i) u) [
        | inl q ↦ subst (λ w. Elected n B w c) (sym q.0) (subst (λ d. Elected n B s.term d) (same_Some i c (sym q.1 ∙ h)) chosen_leader)
        | inr q ↦ elected_on n G.ballots B u c extends.ballots (I.elected u c (sym q.1 ∙ h))
      ];
      late = λ u c h. elim (at_cases G.leader s.term (Some i) u) [
        | inl q ↦ let a : G.ballots.term c ≡ s.term = ap G.ballots.term (sym (same_Some i c (sym q.1 ∙ h))) ∙ sym ok.voter.now in
            omega (arith, q.0, a, extends.ballots.terms c)
        | inr q ↦ omega (arith, I.late u c (sym q.1 ∙ h), extends.ballots.terms c)
      ];
      carries = λ w u k some less one. elim (at_cases G.ledger s.term X w) [
        | inl q ↦ subst (λ Y. HasOrDead n H u k Y) (sym q.1) (X_carries u k (omega (arith, less, q.0)) one)
        | inr q ↦ subst (λ Y. HasOrDead n H u k Y) (sym q.1) (carries_on n G H u k (G.ledger w) extends one (I.carries w u k (omega (arith, some, ap length q.1)) less one))
      ];
      reaches = λ u j. elim (both_cases G.held s.term i (length X) u j) [
        | inl q ↦ omega (arith, q.2, ap (λ w. length (with_at G.ledger s.term X w)) q.0, ap length (at_same G.ledger s.term X))
        | inr q ↦ let a = extends.ledgers u in omega (arith, q.1, I.reaches u j, a.right)
      ];
      stands = λ t c L h. rooted_on G H L extends (I.stands t c L h);
    }

    -- what it acknowledged
    X_holds : (u k : ℕ) → 1 ≤ k → k ≤ H.held u i → HasOrDead n H u k X
    unfolding H write
    X_holds u k one le own = elim (both_cases G.held s.term i (length X) u i) [
      | inl q ↦ inr (subst (λ Y. Agree k Y X) (sym (ap (with_at G.ledger s.term X) q.0 ∙ at_same G.ledger s.term X)) (agree_less k (omega (arith, le, q.2)) (agree_self X)))
      | inr q ↦ elim (leb_tells (suc u) s.term) [
        | inl a ↦ X_carries u k a.1 one own
        | inr a ↦ absurd (elim (leb_tells u s.term) [
          | inl b ↦ q.0 (omega (arith, a.1, b.1), refl)
          | inr b ↦ omega (arith, one, le, q.1, ok.unheld u (omega (arith, b.1)))
        ])
      ]
    ]

    -- in its own term
    X_own : (k : ℕ) → k ≤ H.held s.term i → Agree k (H.ledger s.term) X
    unfolding H write
    X_own k le = subst (λ Y. Agree k Y X) (sym (at_same G.ledger s.term X)) (agree_less k (omega (arith, le, both_same G.held s.term i (length X))) (agree_self X))

    -- its log
    X_log : LogOk n H i s.term X s.covered s.commit
    X_log = record {
      terms = X_terms;
      rooted = X_rooted;
      holds = X_holds;
      own = X_own;
      based = ok.log.based;
      within = omega (arith, ok.log.within, size);
      fixed = fixed_grow n H s.term s.commit s.log X (longer s.commit ok.log.within) (fixed_on n G H s.term s.commit s.log extends ok.log.fixed);
    }

    -- it leads
    X_leads : LeaderOk n H i s.term X next match
    unfolding H write X
    X_leads = record {
      leads = at_same G.leader s.term (Some i);
      wrote = sym (at_same G.ledger s.term X);
      whole = both_same G.held s.term i (length X);
      matched = λ j less other. omega (arith, matched j less other, both_other G.held s.term i (length X) s.term j other);
      next_from = next_from;
      next_to = next_to;
    }

    -- as its mode says
    X_role : ModeOk n H i s.term X mode
    unfolding ModeOk
    X_role = subst (λ y. ModeOk n H i s.term X y) (sym is) X_leads

    -- a leader that writes one entry
    pub write_keeps : let r : Raft C = record s { log = s.log ++ e ∷ []; mode = mode } in KeepsHistory P n G i r out
    unfolding H B X write
    write_keeps = record {
      after = H;
      extends = extends;
      apart = apart;
      ledgers = ledgers;
      own = record {
        voter = v.votes.own;
        unstood = ok.unstood;
        unheld = λ u less. both_else G.held s.term i (length X) u i (λ q. omega (arith, q, less)) ∙ ok.unheld u less;
        log = X_log;
        role = X_role;
      };
      says = λ k x h. absurd (let q = rw o at h in cc);
      sound = λ all u. elim (at_cases G.ledger s.term X u) [
        | inl q ↦ subst P (sym q.1) (sound all)
        | inr q ↦ subst P (sym q.1) (all u)
      ];
      writes = λ u. elim (at_cases G.ledger s.term X u) [
        | inl q ↦ inr (sym q.0, ap is_leader is)
        | inr q ↦ inl q.1
      ];
    }

module _ {C : Type 0} (P : List (Entry C) → Type 0) (n : ℕ) (G : History C) (i : ℕ) (s : Raft C) (I : Ledgers n G) (ok : ServerOk n G i s) where
  -- a proposal
  pub extend_keeps : (next match : List ℕ) (command : C) (out : List (Message C)) → (P s.log → P (s.log ++ record { term = s.term; command = command } ∷ [])) → s.mode ≡ Leader next match → out ≡ [] →
      (let r : Raft C = record s { log = s.log ++ record { term = s.term; command = command } ∷ [] } in VotesKept n G.ballots i r out → KeepsHistory P n G i r out)
  extend_keeps next match command out push mode o v =
      let l = as_leader P n G i s I ok next match mode in
      let e : Entry C = record { term = s.term; command = command } in
      let size : length (s.log ++ e ∷ []) ≡ suc (length s.log) = push_length s.log e in
      write_keeps P n G i s I ok e refl (inr l.leads)
      (subst (λ L. Agree (length L) L (s.log ++ e ∷ [])) l.wrote (agree_append (length s.log) s.log (e ∷ []) (omega arith)))
      (omega (arith, l.whole, size))
      (λ u k less one. subst (λ L. HasOrDead n G u k L) (sym l.wrote) (I.carries s.term u k (I.led s.term i l.leads) less one))
      (λ all. push (subst P (sym l.wrote) (all s.term)))
      next match s.mode mode out o l.matched l.next_from (λ j less other. omega (arith, l.next_to j less other, size)) v

  -- a term that this server is elected in has no other leader
  unled_case : (votes : List Bool) (o : Option ℕ) (B : Ballots) → CandidateOk n G i s.term s.log votes → Extends G (record G { ballots = B }) → Elected n B s.term i → G.leader s.term ≡ o → G.leader s.term ≡ None
  unled_case votes None B c e mine h = h
  unled_case votes (Some d) B c e mine h =
      absurd (c.unled (h ∙ ap Some (one_elected n B s.term d i (elected_on n G.ballots B s.term d e.ballots (I.elected s.term d h)) mine)))

  -- each log is the first part of a ledger
  pub log_sound : P [] → ((k : ℕ) (L : List (Entry C)) → P L → P (take k L)) → ((u : ℕ) → P (G.ledger u)) → P s.log
  log_sound none first all = elim (leb_tells (length s.log) 0) [
    | inl a ↦ subst P (sym (none_is s.log a.1)) none
    | inr a ↦
        let r : Agree (length s.log) s.log (G.ledger (term_at s.log (length s.log))) = rooted_at G.ledger s.log (length s.log) ok.log.rooted (omega (arith, a.1)) (omega arith) in
        subst P (sym r.same ∙ take_all (length s.log) s.log (omega arith)) (first (length s.log) (G.ledger (term_at s.log (length s.log))) (all (term_at s.log (length s.log))))
  ]

  -- a win
  pub win_keeps : (noop : C) (votes : List Bool) (out : List (Message C)) → P [] → ((k : ℕ) (L : List (Entry C)) → P L → P (take k L)) →
      (length s.log < MAX → P s.log → P (s.log ++ record { term = s.term; command = noop } ∷ [])) → s.mode ≡ Candidate votes → is_quorum n (marked votes) ≡ true → out ≡ [] →
      VotesKept n G.ballots i (won noop n s) out → KeepsHistory P n G i (won noop n s) out
  unfolding VoterMode
  win_keeps noop votes out none_sound first_sound push mode many o v =
      let c = as_candidate P n G i s I ok votes mode in
      let e : Entry C = record { term = s.term; command = noop } in
      let size : length (s.log ++ e ∷ []) ≡ suc (length s.log) = push_length s.log e in
      let mine : Elected n v.votes.after s.term i = v.votes.own.role in
      let none : G.leader s.term ≡ None = unled_case votes (G.leader s.term) v.votes.after c
      (record { ballots = v.votes.grow; ledgers = λ t. agree_self (G.ledger t); held = λ u j. omega arith; left = λ u j less. refl; stood = λ t d L h. h; leaders = λ t d h. h }) mine refl in
      let empty : length (G.ledger s.term) ≡ 0 = I.unled s.term none in
      write_keeps P n G i s I ok e refl (inl none)
      (subst (λ k. Agree k (G.ledger s.term) (s.log ++ e ∷ [])) (sym empty) (agree_none (G.ledger s.term) (s.log ++ e ∷ [])))
      (omega (arith, I.reaches s.term i, empty))
      (win_carries n G s.term (marked votes) s.log (quorum_told n (marked votes) many)
      (λ j less mark. let b = c.carried j less mark in b.late)
      (λ j u k less mark lower one le. let b = c.carried j less mark in b.carries u k lower one le))
      (λ all. push c.index_left (log_sound none_sound first_sound all))
      (replicate n (suc (length s.log))) (replicate n 0) (Leader (replicate n (suc (length s.log))) (replicate n 0)) refl out o
      (λ j less other. omega (arith, index_at_replicate n 0 j less))
      (λ j less other. omega (arith, index_at_replicate n (suc (length s.log)) j less))
      (λ j less other. omega (arith, index_at_replicate n (suc (length s.log)) j less, size)) v
