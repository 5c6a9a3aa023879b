-- A follower takes over an Append or an Install.
use Rattle.std.proofs.Common.{◌≡◌, ℕ, zero, suc, ◌+◌, ◌<◌, ◌≤◌, ◌⊎◌, inl, inr, true, ◌==◌, nat_le, min, max, Some, List, [], ◌∷◌, length, take, refl, sym, ap, ◌∙◌, subst, arith, slice_get, length-take-le}
use Rattle.std.proofs.lemmas.Bool.{and_parts, leb-true, leb-false, eqb-true}
use Rattle.std.proofs.lemmas.Bool.Decides.{leb_tells}
use Rattle.machine_model.specs.declared.entry.Entry.{Entry}
use Rattle.raft_model.specs.Logs.{term_at, has, install}
use Rattle.raft_model.specs.Messages.{Message, AppendReply, InstallReply}
use Rattle.raft_model.specs.Rafts.{Raft, Follower, is_held, appended, installed}
use Rattle.raft_safety.specs.Inner.Functions.{with_both}
use Rattle.raft_model.specs.Chains.{Agree}
use Rattle.raft_model.proofs.Cases.{bool_cases}
use Rattle.raft_safety.specs.Inner.Agreement.{Rooted, Adopted}
use Rattle.raft_safety.specs.Inner.Ballots.{Ballots, BallotsGrow}
use Rattle.raft_safety.specs.Inner.History.{History, HasOrDead, Fixed, Ledgers, Extends}
use Rattle.raft_safety.specs.Inner.Invariants.{ModeOk, ServerOk, AppendOk, InstallOk, BodyOk, KeepsHistory}
use Rattle.raft_safety.proofs.Functions.{both_cases, both_same, both_other, both_else}
use Rattle.raft_safety.proofs.Logs.{agree_none, agree_sym, agree_trans, agree_less, agree_term, agree_take, rooted_two, merge_adopts, install_adopts}
use Rattle.raft_safety.proofs.Completeness.{fixed_in}
use Rattle.raft_safety.proofs.Growth.{carries_on, adopted_carries, fixed_on}
use Rattle.raft_safety.proofs.Places.{get-one}
use Rattle.raft_safety.proofs.Voters.{elected_on}
use Rattle.raft_safety.proofs.VoterSteps.{VotesKept}
use Rattle.raft_safety.proofs.Frame.{agree_self, fixed_less, fixed_grow, fixed_later}
use Rattle.raft_safety.proofs.QuietSteps.{or_either}

module _ {C : Type 0} where
  -- the first m of a rooted list
  pub rooted_take : (ledger : ℕ → List (Entry C)) (L : List (Entry C)) (m : ℕ) → m ≤ length L → Rooted ledger L → Rooted ledger (take m L)
  unfolding Rooted
  rooted_take ledger L m le r p one short =
      let size : length (take m L) ≡ m = length-take-le m L le in
      let a : Agree p L (take m L) = agree_take p m L (omega (arith, short, size)) le in
      let same : term_at L p ≡ term_at (take m L) p = agree_term p p L (take m L) a one (omega arith) in
      agree_trans (agree_sym a) (subst (λ t. Agree p L (ledger t)) same (r p one (omega (arith, short, size, le))))

  -- terms of a first part
  pub terms_take : (L : List (Entry C)) (m v : ℕ) → m ≤ length L → ((p : ℕ) → 1 ≤ p → p ≤ length L → term_at L p ≤ v) → (p : ℕ) → 1 ≤ p → p ≤ length (take m L) → term_at (take m L) p ≤ v
  terms_take L m v le h p one short =
      let size : length (take m L) ≡ m = length-take-le m L le in
      let same : term_at L p ≡ term_at (take m L) p = agree_term p p L (take m L) (agree_take p m L (omega (arith, short, size)) le) one (omega arith) in
      omega (arith, h p one (omega (arith, short, size, le)), same)

  -- what was acknowledged before is still there, or can't be chosen any more
  old_holds : (n : ℕ) (G : History C) (v i r u k : ℕ) (log new : List (Entry C)) → Ledgers n G → ((w : ℕ) → v < w → G.held w i ≡ 0) → 1 ≤ length (G.ledger v) →
      Adopted (G.ledger v) log new r → 1 ≤ k → HasOrDead n G u k log → k ≤ G.held u i → HasOrDead n G u k new
  old_holds n G v i r u k log new I none some ad one old x own = elim (leb_tells (suc u) v) [
    | inl a ↦ adopted_carries n G u v k r log new I a.1 one some ad old own
    | inr a ↦ elim (leb_tells (suc v) u) [
      | inl b ↦ absurd (omega (arith, one, x, none u b.1))
      | inr b ↦
          let e : v ≡ u = omega (arith, a.1, b.1) in
          elim (old own) [
            | inl d ↦ inl d
            | inr g ↦ inr (subst (λ w. Agree k (G.ledger w) new) e (ad.kept k (subst (λ w. Agree k (G.ledger w) log) (sym e) g)))
          ]
    ]
  ]

  -- server i has acknowledged x in term v
  unfoldable pub hold : History C → Ballots → ℕ → ℕ → ℕ → History C
  hold G B v i x = record { ballots = B; stood = G.stood; leader = G.leader; ledger = G.ledger; held = with_both G.held v i x }

  -- to acknowledge more takes nothing back
  pub hold_extends : (G : History C) (B : Ballots) (v i x : ℕ) → BallotsGrow G.ballots B → G.ballots.term i ≡ v → G.held v i ≤ x → Extends G (hold G B v i x)
  unfolding hold
  hold_extends G B v i x g now le = record {
    ballots = g;
    ledgers = λ t. agree_self (G.ledger t);
    held = λ u j. elim (both_cases G.held v i x u j) [
      | inl q ↦ let a : G.held u j ≡ G.held v i = ap (λ w. G.held w j) q.0 ∙ ap (G.held v) q.1 in omega (arith, a, q.2, le)
      | inr q ↦ omega (arith, q.1)
    ];
    left = λ u j less. elim (both_cases G.held v i x u j) [
      | inl q ↦ absurd (let a : G.ballots.term j ≡ v = ap G.ballots.term q.1 ∙ now in omega (arith, a, q.0, less))
      | inr q ↦ q.1
    ];
    stood = λ t c L h. h;
    leaders = λ t c h. h;
  }

  -- nor does it touch a ledger
  pub hold_ledgers : (n : ℕ) (G : History C) (B : Ballots) (v i x : ℕ) → Ledgers n G → Extends G (hold G B v i x) → x ≤ length (G.ledger v) → Ledgers n (hold G B v i x)
  unfolding hold
  hold_ledgers n G B v i x I e le = record {
    terms = I.terms;
    rooted = I.rooted;
    unled = I.unled;
    led = I.led;
    elected = λ t c q. elected_on n G.ballots B t c e.ballots (I.elected t c q);
    late = λ t c q. omega (arith, I.late t c q, e.ballots.terms c);
    carries = λ t u k some less one. carries_on n G (hold G B v i x) u k (G.ledger t) e one (I.carries t u k some less one);
    reaches = λ u j. elim (both_cases G.held v i x u j) [
      | inl q ↦ omega (arith, q.2, le, ap (λ w. length (G.ledger w)) q.0)
      | inr q ↦ omega (arith, q.1, I.reaches u j)
    ];
    stands = I.stands;
  }

module _ {C : Type 0} (P : List (Entry C) → Type 0) (n : ℕ) (G : History C) (i : ℕ) (s : Raft C) (I : Ledgers n G) (ok : ServerOk n G i s) (led : 1 ≤ length (G.ledger s.term)) where
  -- the leader's ledger
  L : List (Entry C)
  L = G.ledger s.term

  -- what the receiver has committed is the leader's
  committed : Agree s.commit s.log (G.ledger s.term)
  committed = fixed_in n G s.term s.term s.commit s.log I ok.log.fixed (omega arith) led

  -- what was acknowledged is in the new log, or is dead
  new_holds : (B : Ballots) (new : List (Entry C)) (m : ℕ) → BallotsGrow G.ballots B → Adopted (G.ledger s.term) s.log new m →
      (u k : ℕ) → 1 ≤ k → k ≤ with_both G.held s.term i (max (G.held s.term i) m) u i → HasOrDead n (hold G B s.term i (max (G.held s.term i) m)) u k new
  new_holds B new m g ad u k one h =
      let x = max (G.held s.term i) m in
      let old : k ≤ G.held u i → HasOrDead n G u k new = λ le. old_holds n G s.term i m u k s.log new I ok.unheld led ad one (ok.log.holds u k one le) le in
      carries_on n G (hold G B s.term i x) u k new (hold_extends G B s.term i x g (sym ok.voter.now) (omega arith)) one
      (λ own. elim (both_cases G.held s.term i x u i) [
        | inr q ↦ old (omega (arith, h, q.1)) own
        | inl q ↦ elim (leb_tells k m) [
          | inl t ↦ inr (subst (λ w. Agree k (G.ledger w) new) (sym q.0) (agree_less k t.1 ad.reached))
          | inr t ↦ old (omega (arith, h, q.2, t.1, ap (λ w. G.held w i) q.0)) own
        ]
      ])

  -- its terms
  new_terms : (new : List (Entry C)) (m : ℕ) → Adopted (G.ledger s.term) s.log new m → (p : ℕ) → 1 ≤ p → p ≤ length new → term_at new p ≤ s.term
  new_terms new m ad = elim ad.origin [
    | inl e ↦ subst (λ X. (p : ℕ) → 1 ≤ p → p ≤ length X → term_at X p ≤ s.term) (sym e) ok.log.terms
    | inr e ↦ subst (λ X. (p : ℕ) → 1 ≤ p → p ≤ length X → term_at X p ≤ s.term) (sym e)
        (terms_take (G.ledger s.term) m s.term (let a = ad.reached in a.left) (I.terms s.term))
  ]

  -- its entries bring their first parts with them
  new_rooted : (new : List (Entry C)) (m : ℕ) → Adopted (G.ledger s.term) s.log new m → Rooted G.ledger new
  new_rooted new m ad = elim ad.origin [
    | inl e ↦ subst (λ X. Rooted G.ledger X) (sym e) ok.log.rooted
    | inr e ↦ subst (λ X. Rooted G.ledger X) (sym e) (rooted_take G.ledger (G.ledger s.term) m (let a = ad.reached in a.left) (I.rooted s.term))
  ]

  -- the commit index that the server had, or one that the message brings
  pub Brings : ℕ → ℕ → Type 0
  Brings m commit = (commit ≡ s.commit) ⊎ ((commit ≤ m) × Fixed n G s.term commit (G.ledger s.term))

  -- its commit index
  new_commit : (new : List (Entry C)) (m commit : ℕ) → Adopted (G.ledger s.term) s.log new m → Brings m commit → (commit ≤ length new) × Fixed n G s.term commit new
  unfolding Brings
  new_commit new m commit ad (inl e) =
      let a : Agree s.commit (G.ledger s.term) new = ad.kept s.commit (agree_sym committed) in
      (omega (arith, e, a.right), subst (λ c. Fixed n G s.term c new) (sym e) (fixed_grow n G s.term s.commit s.log new (agree_trans committed a) ok.log.fixed))
  new_commit new m commit ad (inr d) =
      let a : Agree commit (G.ledger s.term) new = agree_less commit d.0 ad.reached in
      (a.right, fixed_grow n G s.term commit (G.ledger s.term) new a d.1)

  -- the log becomes `new`, which has the first m of the leader's; and m is acknowledged
  pub adopt_keeps : (t : Raft C) (m : ℕ) (out : List (Message C)) → VotesKept n G.ballots i t out → t.term ≡ s.term → t.mode ≡ Follower → Adopted (G.ledger s.term) s.log t.log m →
      Brings m t.commit → t.covered ≤ t.commit →
      ((H : History C) → m ≤ H.held s.term i → (k : ℕ) (x : Message C) → slice_get out k ≡ Some x → BodyOk n H x.from x.to x.term x.body) → KeepsHistory P n G i t out
  unfolding hold ModeOk
  adopt_keeps t m out v same mode ad brings based says =
      let x = max (G.held s.term i) m in
      let B = v.votes.after in
      let H : History C = hold G B s.term i x in
      let e : Extends G H = hold_extends G B s.term i x v.votes.grow (sym ok.voter.now) (omega arith) in
      let c = new_commit t.log m t.commit ad brings in
      let mine : H.held s.term i ≡ x = both_same G.held s.term i x in
      record {
        after = H;
        extends = e;
        apart = record {
          ballots = v.votes.apart;
          stood = λ j u other. refl;
          held = λ j u other. both_other G.held s.term i x u j other;
          leaders = λ j u other q. q;
          ledgers = λ j u other q. refl;
        };
        ledgers = hold_ledgers n G B s.term i x I e (let a = ad.reached in omega (arith, a.left, I.reaches s.term i));
        own = record {
          voter = v.votes.own;
          unstood = λ u less. ok.unstood u (omega (arith, less, same));
          unheld = λ u less. both_else G.held s.term i x u i (λ q. omega (arith, q, less, same)) ∙ ok.unheld u (omega (arith, less, same));
          log = record {
            terms = λ p one le. omega (arith, new_terms t.log m ad p one le, same);
            rooted = new_rooted t.log m ad;
            holds = new_holds B t.log m v.votes.grow ad;
            own = λ k le. subst (λ z. k ≤ H.held z i → Agree k (G.ledger z) t.log) (sym same)
                (λ few. elim (leb_tells k m) [
                  | inl a ↦ agree_less k a.1 ad.reached
                  | inr a ↦ ad.kept k (ok.log.own k (omega (arith, few, mine, a.1)))
                ]) le;
            based = based;
            within = c.0;
            fixed = fixed_later n H s.term t.term t.commit t.log (omega (arith, same)) (fixed_on n G H s.term t.commit t.log e c.1);
          };
          role = subst (λ y. ModeOk n H i t.term t.log y) (sym mode) tt;
        };
        says = λ k y h. record { vote = v.says k y h; body = says H (omega (arith, mine)) k y h };
        sound = λ h. h;
        writes = λ u. inl refl;
      }

  -- where the entries begin, the log is the leader's
  held_start : (prev prev_term : ℕ) → is_held s prev prev_term ≡ true → prev_term ≡ term_at (G.ledger s.term) prev → prev ≤ length (G.ledger s.term) → Agree prev s.log (G.ledger s.term)
  held_start zero prev_term h e le = agree_none s.log (G.ledger s.term)
  held_start (suc p) prev_term h e le = elim (or_either (nat_le (suc p) s.commit) (has s.log (suc p) prev_term) h) [
    | inl a ↦ agree_less (suc p) (leb-true (suc p) s.commit a) committed
    | inr b ↦
        let c = and_parts (nat_le (suc p) (length s.log)) (term_at s.log (suc p) == prev_term) b in
        rooted_two G.ledger s.log (G.ledger s.term) (suc p) ok.log.rooted (I.rooted s.term) (omega arith) (leb-true (suc p) (length s.log) c.0) le
        (eqb-true (term_at s.log (suc p)) prev_term c.1 ∙ e)
  ]

  -- the commit index that an Append brings
  append_brings : (commit m : ℕ) → Fixed n G s.term commit (G.ledger s.term) → Brings m (max s.commit (min commit m))
  unfolding Brings
  append_brings commit m f = elim (leb_tells (min commit m) s.commit) [
    | inl a ↦ inl (omega (arith, a.1))
    | inr b ↦ inr (omega (arith, b.1), fixed_less n G s.term commit (max s.commit (min commit m)) (G.ledger s.term) (omega (arith, b.1)) f)
  ]

  -- an Append that is accepted
  pub append_keeps : (from prev prev_term commit : ℕ) (entries : List (Entry C)) → s.mode ≡ Follower → AppendOk n G s.term prev prev_term commit entries → is_held s prev prev_term ≡ true →
      (let out : List (Message C) = record { from = i; to = from; term = s.term; body = AppendReply s.term true (prev + length entries) } ∷ [] in
      VotesKept n G.ballots i (appended s prev commit entries) out → KeepsHistory P n G i (appended s prev commit entries) out)
  unfolding BodyOk
  append_keeps from prev prev_term commit entries mode a held v =
      let m = prev + length entries in
      adopt_keeps (appended s prev commit entries) m _ v refl mode
      (merge_adopts G.ledger (G.ledger s.term) s.log entries s.commit prev m ok.log.rooted (I.rooted s.term) committed
      (held_start prev prev_term held a.before (omega (arith, a.reach))) refl a.reach a.part)
      (append_brings commit m a.fixed) (omega (arith, ok.log.based))
      (λ H le k x h. subst (λ (y : Message C). BodyOk n H y.from y.to y.term y.body) (get-one _ k x h) le)

  -- the answer to an Install
  install_says : (from term : ℕ) (base : List (Entry C)) (H : History C) → length base ≤ H.held s.term i →
      (let out : List (Message C) = record { from = i; to = from; term = term; body = InstallReply s.term (length base) } ∷ [] in
      (k : ℕ) (x : Message C) → slice_get out k ≡ Some x → BodyOk n H x.from x.to x.term x.body)
  unfolding BodyOk
  install_says from term base H le k x h = subst (λ (y : Message C). BodyOk n H y.from y.to y.term y.body) (get-one _ k x h) le

  -- an Install
  pub install_keeps : (from : ℕ) (base : List (Entry C)) → s.mode ≡ Follower → InstallOk n G s.term base →
      (let out : List (Message C) = record { from = i; to = from; term = (installed s base).term; body = InstallReply s.term (length base) } ∷ [] in
      VotesKept n G.ballots i (installed s base) out → KeepsHistory P n G i (installed s base) out)
  unfolding Brings
  install_keeps from base mode a = elim (bool_cases (nat_le (length base) s.commit)) [
    | inl e ↦ rw e (λ v. adopt_keeps s (length base) _ v refl mode
        (record { reached = agree_sym (agree_less (length base) (leb-true (length base) s.commit e) committed); origin = inl refl; kept = λ k h. h })
        (inl refl) ok.log.based (install_says from s.term base))
    | inr e ↦ rw e (λ v. adopt_keeps (record s { log = install s.log base; covered = length base; commit = length base }) (length base) _ v refl mode
        (install_adopts G.ledger (G.ledger s.term) s.log base ok.log.rooted (I.rooted s.term) (omega (arith, leb-false (length base) s.commit e)) a.part)
        (inr (omega arith, a.fixed)) (omega arith) (install_says from s.term base))
  ]
