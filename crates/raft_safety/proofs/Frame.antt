-- What survives when the history grows.
use Rattle.std.proofs.Common.{◌≡◌, ◌≢◌, ℕ, zero, suc, ◌+◌, ◌<◌, ◌≤◌, inl, inr, Bool, true, false, Some, List, [], ◌∷◌, length, take, drop, refl, sym, ap, ◌∙◌, subst, arith}
use Rattle.machine_model.specs.declared.entry.Entry.{Entry}
use Rattle.raft_model.specs.Logs.{term_at}
use Rattle.raft_model.specs.Messages.{Message, Body, VoteRequest, VoteReply, Append, AppendReply, Install, InstallReply}
use Rattle.raft_model.specs.Rafts.{Raft, Mode, Down, Follower, Candidate, Leader, is_leader}
use Rattle.raft_model.specs.Chains.{Agree}
use Rattle.raft_safety.specs.Inner.SmallSteps.{LedBefore}
use Rattle.raft_safety.specs.Inner.Agreement.{Rooted}
use Rattle.raft_safety.specs.Inner.History.{History, Fixed, CarriesHeld, Ledgers, Extends, DiffersAt}
use Rattle.raft_safety.specs.Inner.Invariants.{LogOk, CandidateOk, LeaderOk, ModeOk, ServerOk, AppendOk, InstallOk, BodyOk, MessageOk, KeepsHistory}
use Rattle.std.proofs.lemmas.Bool.Decides.{leb_tells}
use Rattle.raft_safety.proofs.Logs.{agree_none, agree_sym, agree_trans, agree_less, agree_term}
use Rattle.std.proofs.lemmas.List.{drop-take}
use Rattle.raft_safety.proofs.Growth.{agree_on, carries_on, fixed_on}
use Rattle.raft_safety.proofs.Voters.{grow_none, grow_more, apart_none, apart_more, voter_on, body_on}

module _ {C : Type 0} where
  -- a list is its own first part
  pub agree_self : (X : List (Entry C)) → Agree (length X) X X
  agree_self X = record { left = omega arith; right = omega arith; same = refl }

  -- a history extends itself
  pub extends_none : (G : History C) → Extends G G
  extends_none G = record {
    ballots = grow_none G.ballots;
    ledgers = λ t. agree_self (G.ledger t);
    held = λ u i. omega arith;
    left = λ u i less. refl;
    stood = λ t c L h. h;
    leaders = λ t c h. h;
  }

  -- and what extends it is extended on
  pub extends_more : (G H K : History C) → Extends G H → Extends H K → Extends G K
  extends_more G H K x y = record {
    ballots = grow_more G.ballots H.ballots K.ballots x.ballots y.ballots;
    ledgers = λ t. agree_trans (x.ledgers t) (agree_less (length (G.ledger t)) (let a = x.ledgers t in a.right) (y.ledgers t));
    held = λ u i. omega (arith, x.held u i, y.held u i);
    left = λ u i less. y.left u i (omega (arith, less, x.ballots.terms i)) ∙ x.left u i less;
    stood = λ t c L h. y.stood t c L (x.stood t c L h);
    leaders = λ t c h. y.leaders t c (x.leaders t c h);
  }

  -- nothing differs
  pub apart_self : (i : ℕ) (G : History C) → DiffersAt i G G
  apart_self i G = record {
    ballots = apart_none i G.ballots;
    stood = λ j t other. refl;
    held = λ j u other. refl;
    leaders = λ j t other h. h;
    ledgers = λ j t other h. refl;
  }

  -- one server's changes, one after the other
  pub apart_both : (i : ℕ) (G H K : History C) → Extends G H → DiffersAt i G H → DiffersAt i H K → DiffersAt i G K
  apart_both i G H K e x y = record {
    ballots = apart_more i G.ballots H.ballots K.ballots x.ballots y.ballots;
    stood = λ j t other. y.stood j t other ∙ x.stood j t other;
    held = λ j u other. y.held j u other ∙ x.held j u other;
    leaders = λ j t other h. x.leaders j t other (y.leaders j t other h);
    ledgers = λ j t other h. y.ledgers j t other (e.leaders t j h) ∙ x.ledgers j t other h;
  }

  -- entries keep their first parts
  pub rooted_on : (G H : History C) (X : List (Entry C)) → Extends G H → Rooted G.ledger X → Rooted H.ledger X
  unfolding Rooted
  rooted_on G H X e r p one le = agree_sym (agree_on G H (term_at X p) p X e (agree_sym (r p one le)))

  -- what is fixed by a term is so by a later one
  pub fixed_later : (n : ℕ) (G : History C) (v w k : ℕ) (X : List (Entry C)) → v ≤ w → Fixed n G v k X → Fixed n G w k X
  fixed_later n G v w k X le (inl z) = inl z
  fixed_later n G v w k X le (inr f) = inr (record { term = f.term; index = f.index; early = omega (arith, f.early, le); reach = f.reach; chosen = f.chosen; agree = f.agree })

  -- and so is less of it
  pub fixed_less : (n : ℕ) (G : History C) (v k j : ℕ) (X : List (Entry C)) → j ≤ k → Fixed n G v k X → Fixed n G v j X
  fixed_less n G v k j X le (inl z) = inl (omega (arith, le, z))
  fixed_less n G v k j X le (inr f) = inr (record { term = f.term; index = f.index; early = f.early; reach = omega (arith, f.reach, le); chosen = f.chosen; agree = agree_less j le f.agree })

  -- and a list with the same first part
  pub fixed_grow : (n : ℕ) (G : History C) (v k : ℕ) (X Y : List (Entry C)) → Agree k X Y → Fixed n G v k X → Fixed n G v k Y
  fixed_grow n G v k X Y a (inl z) = inl z
  fixed_grow n G v k X Y a (inr f) = inr (record { term = f.term; index = f.index; early = f.early; reach = f.reach; chosen = f.chosen; agree = agree_trans (agree_sym a) f.agree })

  -- what a voter held stays carried
  pub carried_on : (n : ℕ) (G H : History C) (t i : ℕ) (L : List (Entry C)) → Extends G H → CarriesHeld n G t i L → CarriesHeld n H t i L
  carried_on n G H t i L e b = record {
    late = omega (arith, b.late, e.ballots.terms i);
    carries = λ u k less one le. carries_on n G H u k L e one (b.carries u k less one (omega (arith, le, e.left u i (omega (arith, less, b.late)))));
  }

  -- a log that stays, of a server that acknowledges nothing new
  pub log_on : (n : ℕ) (G H : History C) (j v w : ℕ) (log : List (Entry C)) (covered commit : ℕ) → Extends G H → ((u : ℕ) → H.held u j ≡ G.held u j) → v ≤ w → (v < w → G.held w j ≡ 0) →
      LogOk n G j v log covered commit → LogOk n H j w log covered commit
  log_on n G H j v w log covered commit e same le none h = record {
    terms = λ p one le2. omega (arith, h.terms p one le2, le);
    rooted = rooted_on G H log e h.rooted;
    holds = λ u k one le2. carries_on n G H u k log e one (h.holds u k one (omega (arith, le2, same u)));
    own = λ k le2. elim (leb_tells w v) [
      | inl a ↦
          let now : v ≡ w = omega (arith, a.1, le) in
          subst (λ z. Agree k (H.ledger z) log) now (agree_on G H v k log e (h.own k (omega (arith, le2, same w, ap (λ z. G.held z j) now))))
      | inr a ↦
          let zero_is : k ≡ 0 = omega (arith, le2, same w, none (omega (arith, a.1))) in
          subst (λ c. Agree c (H.ledger w) log) (sym zero_is) (agree_none (H.ledger w) log)
    ];
    based = h.based;
    within = h.within;
    fixed = fixed_later n H v w commit log le (fixed_on n G H v commit log e h.fixed);
  }

  -- a candidate whose part of the history stays
  candidate_on : (n : ℕ) (G H : History C) (j t : ℕ) (log : List (Entry C)) (votes : List Bool) → Extends G H → (H.leader t ≡ Some j → G.leader t ≡ Some j) →
      CandidateOk n G j t log votes → CandidateOk n H j t log votes
  candidate_on n G H j t log votes e back h = record {
    stood = e.stood t j log h.stood;
    unled = λ q. h.unled (back q);
    index_left = h.index_left;
    carried = λ i less mark. carried_on n G H t i log e (h.carried i less mark);
  }

  -- a leader whose ledger stays
  leader_on : (n : ℕ) (G H : History C) (j t : ℕ) (log : List (Entry C)) (next match : List ℕ) → Extends G H → (G.leader t ≡ Some j → H.ledger t ≡ G.ledger t) →
      H.held t j ≡ G.held t j → LeaderOk n G j t log next match → LeaderOk n H j t log next match
  leader_on n G H j t log next match e same held h = record {
    leads = e.leaders t j h.leads;
    wrote = h.wrote ∙ sym (same h.leads);
    whole = held ∙ h.whole;
    matched = λ i less other. omega (arith, h.matched i less other, e.held t i);
    next_from = h.next_from;
    next_to = h.next_to;
  }

  -- each mode
  pub role_on : (n : ℕ) (G H : History C) (j t : ℕ) (log : List (Entry C)) (mode : Mode) → Extends G H → (H.leader t ≡ Some j → G.leader t ≡ Some j) →
      (G.leader t ≡ Some j → H.ledger t ≡ G.ledger t) → H.held t j ≡ G.held t j → ModeOk n G j t log mode → ModeOk n H j t log mode
  unfolding ModeOk
  role_on n G H j t log Down e back same held h = tt
  role_on n G H j t log Follower e back same held h = tt
  role_on n G H j t log (Candidate votes) e back same held h = candidate_on n G H j t log votes e back h
  role_on n G H j t log (Leader next match) e back same held h = leader_on n G H j t log next match e same held h

  -- another server
  pub server_on : (n : ℕ) (G H : History C) (i j : ℕ) (s : Raft C) → Extends G H → DiffersAt i G H → j ≢ i → ServerOk n G j s → ServerOk n H j s
  server_on n G H i j s e a other h = record {
    voter = voter_on n G.ballots H.ballots i j s.term s.vote s.mode e.ballots a.ballots other h.voter;
    unstood = λ t less. a.stood j t other ∙ h.unstood t less;
    unheld = λ t less. a.held j t other ∙ h.unheld t less;
    log = log_on n G H j s.term s.term s.log s.covered s.commit e (λ u. a.held j u other) (omega arith) (λ less. absurd (omega (arith, less))) h.log;
    role = role_on n G H j s.term s.log s.mode e (λ q. a.leaders j s.term other q) (λ q. a.ledgers j s.term other q) (a.held j s.term other) h.role;
  }

  -- a part of a ledger that grew
  pub part_on : (A B entries : List (Entry C)) (prev : ℕ) → Agree (length A) A B → prev + length entries ≤ length A →
      entries ≡ take (length entries) (drop prev A) → entries ≡ take (length entries) (drop prev B)
  part_on A B entries prev a le h =
      let m = length entries in
      h ∙ (sym (drop-take prev m A) ∙ (ap (drop prev) (agree_less (prev + m) le a).same ∙ drop-take prev m B))

  -- there is no entry at 0
  pub term_zero : (A : List (Entry C)) → term_at A 0 ≡ 0
  unfolding term_at
  term_zero [] = refl
  term_zero (e ∷ A) = refl

  -- one term at one index, also before the first
  term_on : (A B : List (Entry C)) (p : ℕ) → Agree (length A) A B → p ≤ length A → term_at A p ≡ term_at B p
  unfolding term_at
  term_on A B zero a le = term_zero A ∙ sym (term_zero B)
  term_on A B (suc p) a le = agree_term (length A) (suc p) A B a (omega arith) le

  -- a ledger that grows stays fixed
  fixed_on_ledger : (n : ℕ) (G H : History C) (t v k : ℕ) → Extends G H → Fixed n G v k (G.ledger t) → Fixed n H v k (H.ledger t)
  fixed_on_ledger n G H t v k e (inl z) = inl z
  fixed_on_ledger n G H t v k e (inr f) =
      let g : Fixed n H v k (G.ledger t) = fixed_on n G H v k (G.ledger t) e (inr f) in
      fixed_grow n H v k (G.ledger t) (H.ledger t) (agree_less k (let a = f.agree in a.left) (e.ledgers t)) g

  -- an Append stays true
  append_on : (n : ℕ) (G H : History C) (term prev prev_term commit : ℕ) (entries : List (Entry C)) → Extends G H → AppendOk n G term prev prev_term commit entries → AppendOk n H term prev prev_term commit entries
  append_on n G H term prev prev_term commit entries e h =
      let a = e.ledgers term in
      record {
        led = omega (arith, h.led, a.right);
        reach = omega (arith, h.reach, a.right);
        part = part_on (G.ledger term) (H.ledger term) entries prev a h.reach h.part;
        before = h.before ∙ term_on (G.ledger term) (H.ledger term) prev a (omega (arith, h.reach));
        fixed = fixed_on_ledger n G H term term commit e h.fixed;
      }

  -- an Install stays true
  install_on : (n : ℕ) (G H : History C) (term : ℕ) (P : List (Entry C)) → Extends G H → InstallOk n G term P → InstallOk n H term P
  install_on n G H term P e h =
      let a = e.ledgers term in
      record {
        led = omega (arith, h.led, a.right);
        part = agree_sym (agree_on G H term (length P) P e (agree_sym h.part));
        fixed = fixed_on_ledger n G H term term (length P) e h.fixed;
      }

  -- each message stays true
  pub bodies_on : (n : ℕ) (G H : History C) (from to term : ℕ) (body : Body C) → Extends G H → BodyOk n G from to term body → BodyOk n H from to term body
  unfolding BodyOk
  bodies_on n G H from to term (VoteRequest index its_last) e h = record { log = h.log; stood = e.stood term from h.log h.stood; index_is = h.index_is; last_is = h.last_is }
  bodies_on n G H from to term (VoteReply asked true) e h = record { log = h.log; stood = e.stood asked to h.log h.stood; carried = carried_on n G H asked from h.log e h.carried }
  bodies_on n G H from to term (VoteReply asked false) e h = tt
  bodies_on n G H from to term (Append prev prev_term commit entries) e h = append_on n G H term prev prev_term commit entries e h
  bodies_on n G H from to term (AppendReply asked true at) e h = omega (arith, h, e.held asked from)
  bodies_on n G H from to term (AppendReply asked false at) e h = tt
  bodies_on n G H from to term (Install P) e h = install_on n G H term P e h
  bodies_on n G H from to term (InstallReply asked at) e h = omega (arith, h, e.held asked from)

  -- with its votes
  pub message_on : (n : ℕ) (G H : History C) (x : Message C) → Extends G H → MessageOk n G x → MessageOk n H x
  message_on n G H x e h = record { vote = body_on G.ballots H.ballots x.from x.to x.body e.ballots h.vote; body = bodies_on n G H x.from x.to x.term x.body e h.body }

  -- a leader's log is the ledger of its term
  pub leader_wrote : (n : ℕ) (G : History C) (j : ℕ) (s : Raft C) (mode : Mode) → ServerOk n G j s → s.mode ≡ mode → is_leader mode ≡ true → s.log ≡ G.ledger s.term
  unfolding ModeOk
  leader_wrote n G j s Down ok e l = absurd (cc)
  leader_wrote n G j s Follower ok e l = absurd (cc)
  leader_wrote n G j s (Candidate votes) ok e l = absurd (cc)
  leader_wrote n G j s (Leader next match) ok e l = let h : ModeOk n G j s.term s.log (Leader next match) = subst (λ x. ModeOk n G j s.term s.log x) e ok.role in h.wrote

  -- a leader leads its term
  pub leader_leads : (n : ℕ) (G : History C) (j : ℕ) (s : Raft C) (mode : Mode) → ServerOk n G j s → s.mode ≡ mode → is_leader mode ≡ true → G.leader s.term ≡ Some j
  unfolding ModeOk
  leader_leads n G j s Down ok e l = absurd (cc)
  leader_leads n G j s Follower ok e l = absurd (cc)
  leader_leads n G j s (Candidate votes) ok e l = absurd (cc)
  leader_leads n G j s (Leader next match) ok e l = let h : ModeOk n G j s.term s.log (Leader next match) = subst (λ x. ModeOk n G j s.term s.log x) e ok.role in h.leads

  -- small steps that pass a leader on leave its ledger
  passed_ledger : (n : ℕ) (G H : History C) (i : ℕ) (s r : Raft C) (u : ℕ) → ServerOk n G i s → ServerOk n H i r → LedBefore s r → r.term ≡ u → is_leader r.mode ≡ true → H.ledger u ≡ G.ledger u
  passed_ledger n G H i s r u old new p e l =
      let q = p l in
      ap H.ledger (sym e) ∙ (sym (leader_wrote n H i r r.mode new refl l) ∙ (q.2 ∙ (leader_wrote n G i s s.mode old refl q.0 ∙ ap G.ledger (sym q.1 ∙ e))))

  -- one change after another
  pub keeps_more : (P : List (Entry C) → Type 0) (n : ℕ) (G : History C) (i : ℕ) (s r t : Raft C) (out : List (Message C)) → ServerOk n G i s → LedBefore s r →
      (x : KeepsHistory P n G i r []) → KeepsHistory P n x.after i t out → KeepsHistory P n G i t out
  keeps_more P n G i s r t out ok p x y = record {
    after = y.after;
    extends = extends_more G x.after y.after x.extends y.extends;
    apart = apart_both i G x.after y.after x.extends x.apart y.apart;
    ledgers = y.ledgers;
    own = y.own;
    says = y.says;
    sound = λ h. y.sound (x.sound h);
    writes = λ u. elim (y.writes u) [
      | inr now ↦ inr now
      | inl same ↦ elim (x.writes u) [
        | inl before ↦ inl (same ∙ before)
        | inr led ↦ inl (same ∙ passed_ledger n G x.after i s r u ok x.own p led.0 led.1)
      ]
    ];
  }

  -- the history stays
  pub keeps_same : (P : List (Entry C) → Type 0) (n : ℕ) (G : History C) (i : ℕ) (t : Raft C) → Ledgers n G → ServerOk n G i t → KeepsHistory P n G i t []
  keeps_same P n G i t I own = record {
    after = G;
    extends = extends_none G;
    apart = apart_self i G;
    ledgers = I;
    own = own;
    says = λ k x h. absurd (cc);
    sound = λ h. h;
    writes = λ u. inl refl;
  }
