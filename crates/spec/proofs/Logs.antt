-- A step of the log's world is some actions of the log's specification.
use Rattle.std.proofs.Common.{◌≡◌, ℕ, zero, suc, ◌≤◌, ◌⊎◌, inl, inr, Option, Some, None, List, [], ◌∷◌, ◌++◌, length, map, take, drop, refl, sym, ap, ◌∙◌, subst, arith, slice_get, slice_set, append-nil, append_assoc, take-append-drop, length-append, take_all, replicate}
use Rattle.std.proofs.lemmas.Option.{same_Some}
use Rattle.machine_model.specs.MachineSpec.{MachineSpec, LawfulMachine, IsCommandOf}
use Rattle.machine_model.specs.After.{after_from, AdmittedFrom}
use Rattle.machine_model.specs.declared.entry.Entry.{Entry}
use Rattle.raft_model.specs.Logs.{term_at, last_term, commands}
use Rattle.raft_model.specs.Rafts.{Raft, is_up, newcomer}
use Rattle.raft_model.specs.Messages.{Message}
use Rattle.raft_model.specs.Worlds.{World, Event, Run, start, more as one_more, first, moment}
use Rattle.raft_model.specs.Chains.{Agree, Chain}
use Rattle.raft_model.proofs.Cases.{bool_cases}
use Rattle.raft_safety.specs.Inner.SmallSteps.{Turns}
use Rattle.raft_safety.proofs.Election.{Moves, event_moves}
use Rattle.raft_safety.proofs.Commits.{turn_commit}
use Rattle.raft_safety.proofs.Places.{get_set-same, get-last, get-more, get-within, take_append, replicate-get}
use Rattle.raft_safety.proofs.Logs.{agree_none, agree_term, rooted_at}
use Rattle.raft_safety.proofs.Sound.{Sound, commands_append, sound_admitted}
use Rattle.raft_safety.proofs.WritingSteps.{none_is}
use Rattle.raft_safety.proofs.Chains.{st, chain, chain_front, chain_one, list_fixed}
use Rattle.raft_safety.proofs.Chains as chains
use Rattle.group_safety.proofs.Lists.{get_map, map_set}
use Rattle.spec.specs.Spec.{ServerStep, applies, crashes, restarts}
use Rattle.spec.specs.LogSpec.{LogState, MayFollow, appends, at_server, Actions, none, more, last_applied_by, Shows, init, Refines, begins, moves, RefinesLog}

module _ {S C : Type 0} (m : MachineSpec S C) where
  -- two parts, one after the other
  pub acts_both : (g h k : LogState C) → Actions m g h → Actions m h k → Actions m g k
  acts_both g h k a none = a
  acts_both g h k a (more b c) = more (acts_both g h _ a b) c

  -- each entry of a list may follow those before it
  pub Grows : List (Entry C) → List (Entry C) → Type 0
  Grows A [] = Unit {0}
  Grows A (e ∷ D) = MayFollow m A e × Grows (A ++ e ∷ []) D

  -- so the list gets there
  pub grows_on : (A D : List (Entry C)) (seen : List (Option ℕ)) → Grows A D → Actions m (record { log = A; last_applied = seen }) (record { log = A ++ D; last_applied = seen })
  unfolding Grows
  grows_on A [] seen g = subst (λ L. Actions m (record { log = A; last_applied = seen }) (record { log = L; last_applied = seen })) (sym (append-nil A)) none
  grows_on A (e ∷ D) seen g =
      let one : Actions m (record { log = A; last_applied = seen }) (record { log = A ++ e ∷ []; last_applied = seen }) = more none (appends e g.0) in
      subst (λ L. Actions m (record { log = A; last_applied = seen }) (record { log = L; last_applied = seen })) (append_assoc A (e ∷ []) D)
      (acts_both _ _ _ one (grows_on (A ++ e ∷ []) D seen g.1))

  -- what one server's turn shows
  pub turn_seen : (n i : ℕ) (sent : List (Message C)) (s t : Raft C) (out : List (Message C)) (long : ℕ) → Turns m n i sent s t out → t.commit ≤ long → (last_applied_by s ≡ last_applied_by t) ⊎ ServerStep long (last_applied_by s) (last_applied_by t)
  turn_seen n i sent s t out long turn fits = elim (bool_cases (is_up s.mode)) [
    | inl a ↦ elim (bool_cases (is_up t.mode)) [
      | inl b ↦ inr (rw a (rw b (applies s.commit t.commit (turn_commit m n i sent s t out turn a b) fits)))
      | inr b ↦ inr (rw a (rw b (crashes s.commit)))
    ]
    | inr a ↦ elim (bool_cases (is_up t.mode)) [
      | inl b ↦ inr (rw a (rw b (restarts t.commit fits)))
      | inr b ↦ inl (rw a (rw b refl))
    ]
  ]

  -- one is written that looks the same
  set_like : (xs : List (Raft C)) (i : ℕ) (x y : Raft C) → slice_get xs i ≡ Some x → last_applied_by x ≡ last_applied_by y → map last_applied_by (slice_set xs i y) ≡ map last_applied_by xs
  set_like [] i x y h e = absurd (cc)
  set_like (z ∷ zs) zero x y h e = ap (λ v. v ∷ map last_applied_by zs) (sym (ap last_applied_by (same_Some z x h) ∙ e))
  set_like (z ∷ zs) (suc i) x y h e = ap (λ l. last_applied_by z ∷ l) (set_like zs i x y h e)

  -- a step of the world: the servers' part
  pub seen_on : (x y : World C) (event : Event C) (v : Moves m x event y) (list : List (Entry C)) → ((i : ℕ) (s : Raft C) → slice_get y.servers i ≡ Some s → Agree s.commit s.log list) → v.new.commit ≤ length list →
      Actions m (record { log = list; last_applied = map last_applied_by x.servers }) (record { log = list; last_applied = map last_applied_by y.servers })
  seen_on x y event v list agrees fits =
      let g : LogState C = record { log = list; last_applied = map last_applied_by x.servers } in
      subst (λ (l : List (Option ℕ)). Actions m g (record { log = list; last_applied = l })) (ap (map last_applied_by) (sym v.servers))
      (elim (turn_seen (length x.servers) v.who x.sent v.old v.new v.out (length list) v.path fits) [
        | inl e ↦ subst (λ (l : List (Option ℕ)). Actions m g (record { log = list; last_applied = l })) (sym (set_like x.servers v.who v.old v.new v.here e)) none
        | inr r ↦ subst (λ (l : List (Option ℕ)). Actions m g (record { log = list; last_applied = l })) (sym (map_set last_applied_by x.servers v.who v.new))
            (more none (at_server v.who (last_applied_by v.old) (last_applied_by v.new) (get_map last_applied_by x.servers v.who v.old v.here) r))
      ])

-- ---- a list that was admitted, with rising terms, grows entry by entry

commands_one : {C : Type 0} (e : Entry C) (D : List (Entry C)) → commands (e ∷ D) ≡ e.command ∷ commands D
unfolding commands
commands_one e D = refl

term_next : {C : Type 0} (A : List (Entry C)) (e : Entry C) (D : List (Entry C)) → term_at (A ++ e ∷ D) (suc (length A)) ≡ e.term
unfolding term_at
term_next [] e D = refl
term_next (a ∷ A) e D = term_next A e D

term_first : {C : Type 0} (A B : List (Entry C)) → term_at (A ++ B) (length A) ≡ term_at A (length A)
unfolding term_at
term_first [] [] = refl
term_first [] (b ∷ B) = refl
term_first (a ∷ []) B = refl
term_first (a ∷ (b ∷ A)) B = term_first (b ∷ A) B

-- terms never fall
pub Rising : {C : Type 0} → List (Entry C) → Type 0
Rising L = (p q : ℕ) → 1 ≤ p → p ≤ q → q ≤ length L → term_at L p ≤ term_at L q

rising_next : {C : Type 0} (A : List (Entry C)) (e : Entry C) (D : List (Entry C)) → Rising (A ++ e ∷ D) → last_term A ≤ e.term
unfolding Rising term_at
rising_next [] e D r = omega arith
rising_next (a ∷ A) e D r =
    let h = r (suc (length A)) (suc (suc (length A))) (omega arith) (omega arith) (omega (arith, length-append A (e ∷ D))) in
    omega (arith, h, term_next (a ∷ A) e D, term_first (a ∷ A) (e ∷ D))

module _ {S C : Type 0} (m : MachineSpec S C) where
  admitted_next : (s : S) (xs : List C) (c : C) (ys : List C) → AdmittedFrom m s (xs ++ c ∷ ys) → IsCommandOf m c × (m.admission (after_from m s xs) c ≡ None)
  admitted_next s [] c ys h = (h.0, h.1)
  admitted_next s (x ∷ xs) c ys h = admitted_next (m.applied s x) xs c ys h.2

  pub may_follow : (A : List (Entry C)) (e : Entry C) (D : List (Entry C)) → Sound m (A ++ e ∷ D) → Rising (A ++ e ∷ D) → MayFollow m A e
  may_follow A e D s r =
      let q : commands (A ++ e ∷ D) ≡ commands A ++ e.command ∷ commands D = commands_append A (e ∷ D) ∙ ap (λ l. commands A ++ l) (commands_one e D) in
      let a = admitted_next m.empty (commands A) e.command (commands D) (subst (λ l. AdmittedFrom m m.empty l) q (sound_admitted m (A ++ e ∷ D) s).each) in
      record { term = rising_next A e D r; command = a.0; admitted = a.1 }

  pub grows : (A D : List (Entry C)) → Sound m (A ++ D) → Rising (A ++ D) → Grows m A D
  unfolding Grows
  grows A [] s r = tt
  grows A (e ∷ D) s r =
      let q = append_assoc A (e ∷ []) D in
      (may_follow A e D s r, grows (A ++ e ∷ []) D (subst (λ L. Sound m L) (sym q) s) (subst (λ L. Rising L) (sym q) r))

  -- one list is the beginning of the other, which was admitted
  pub list_on : (A B : List (Entry C)) (seen : List (Option ℕ)) → Agree (length A) A B → Sound m B → Rising B → Actions m (record { log = A; last_applied = seen }) (record { log = B; last_applied = seen })
  list_on A B seen a s r =
      let D = drop (length A) B in
      let q : A ++ D ≡ B = ap (λ l. l ++ D) (sym (take_all (length A) A (omega arith)) ∙ a.same) ∙ take-append-drop (length A) B in
      subst (λ L. Actions m (record { log = A; last_applied = seen }) (record { log = L; last_applied = seen })) q
      (grows_on m A D seen (grows A D (subst (λ L. Sound m L) (sym q) s) (subst (λ L. Rising L) (sym q) r)))

  -- a step of the world: some actions
  pub step_on : (x y : World C) (event : Event C) (v : Moves m x event y) (A B : List (Entry C)) → Agree (length A) A B → Sound m B → Rising B → ((i : ℕ) (s : Raft C) → slice_get y.servers i ≡ Some s → Agree s.commit s.log B) →
      Actions m (record { log = A; last_applied = map last_applied_by x.servers }) (record { log = B; last_applied = map last_applied_by y.servers })
  step_on x y event v A B a s r agrees =
      let here : slice_get y.servers v.who ≡ Some v.new = subst (λ l. slice_get l v.who ≡ Some v.new) (sym v.servers) (get_set-same x.servers v.who v.new (get-within x.servers v.who v.old v.here)) in
      acts_both m _ _ _ (list_on A B (map last_applied_by x.servers) a s r) (seen_on m x y event v B agrees (agrees v.who v.new here).right)

-- ---- a run

module _ {S C : Type 0} (m : MachineSpec S C) (law : LawfulMachine m) (n : ℕ) (events : List (Event C)) (past : List (World C)) (w : World C) (run : Run m n events past w) (list : List (Entry C)) (one : Chain past w list) where
  same : (st m law n events past w run).list ≡ list
  same = chain_one past w (st m law n events past w run).list list (chain m law n events past w run) one

  story_rises : Rising (st m law n events past w run).list
  unfolding Rising
  story_rises p q low le fits =
      let s = st m law n events past w run in
      let G = s.history in
      let I = s.ok.ledgers in
      let f = list_fixed m law n events past w run s.list s.fixed (omega (arith, low, le, fits)) in
      let L = s.list in
      let u = term_at (G.ledger f.0) q in
      let two : Agree q (G.ledger f.0) (G.ledger u) = rooted_at G.ledger (G.ledger f.0) q (I.rooted f.0) (omega (arith, low, le)) (omega (arith, fits, f.1.right)) in
      let below = I.terms u p low (omega (arith, le, two.right)) in
      omega (
        arith,
        below,
        agree_term (length L) p L (G.ledger f.0) f.1 low (omega (arith, le, fits)),
        agree_term (length L) q L (G.ledger f.0) f.1 (omega (arith, low, le)) fits,
        agree_term q p (G.ledger f.0) (G.ledger u) two low le,
      )

  -- the terms of a run's list never fall, and each of its commands was admitted
  pub list_rises : Rising list
  list_rises = subst (λ l. Rising l) same story_rises

  pub list_sound : Sound m list
  list_sound = subst (λ l. Sound m l) same (chains.list_sound m law n events past w run)

first_applied : (C : Type 0) (n : ℕ) → let none : List (Raft C) = replicate n newcomer in map last_applied_by none ≡ replicate n (Some 0)
first_applied C zero = refl
first_applied C (suc n) = ap (λ l. Some 0 ∷ l) (first_applied C n)

-- what a run comes to
record Comes {S C : Type 0} (m : MachineSpec S C) (n : ℕ) (past : List (World C)) (w : World C) : Type 0 where
  list : List (Entry C)
  refines : Refines m n past w (record { log = list; last_applied = map last_applied_by w.servers })
  chain : Chain past w list

module _ {S C : Type 0} (m : MachineSpec S C) (law : LawfulMachine m) (n : ℕ) where
  begin_shows : Shows {C = C} (first n) (init n)
  begin_shows = record {
    servers = first_applied C n;
    entries = λ i s here. subst (λ (r : Raft C). Agree r.commit r.log []) (replicate-get n newcomer i s here) (agree_none [] []);
  }

  first_none : (list : List (Entry C)) → Chain [] (first n) list → list ≡ []
  first_none list c = elim c.longest [
    | inl e ↦ e
    | inr r ↦ by r.moment r.server r.who r.at.world r.at.world_is r.at.here r.commit
  ] where
    by : (k : ℕ) (s : Raft C) (i : ℕ) (x : World C) → moment [] (first n) k ≡ Some x → slice_get x.servers i ≡ Some s → s.commit ≡ length list → list ≡ []
    by zero s i x at here e =
        let q : first n ≡ x = same_Some (first n) x at in
        let new : newcomer ≡ s = replicate-get n newcomer i s (subst (λ (y : World C). slice_get y.servers i ≡ Some s) (sym q) here) in
        none_is list (omega (arith, e, ap (λ (r : Raft C). r.commit) new))
    by (suc k) s i x at here e = absurd (cc)

  comes : (events : List (Event C)) (past : List (World C)) (w : World C) → Run m n events past w → Comes m n past w
  comes events past w start =
      let c = chain m law n [] [] (first n) start in
      record {
        list = [];
        refines = subst (λ l. Refines m n [] (first n) (record { log = []; last_applied = l })) (sym (first_applied C n)) (begins begin_shows);
        chain = subst (λ l. Chain [] (first n) l) (first_none (st m law n [] [] (first n) start).list c) c;
      }
  comes events past w (one_more {events = es} {past = before} {w = last} e next r is h) =
      let now = one_more e next r is h in
      let old = comes es before last r in
      let B = (st m law n (es ++ e ∷ []) (before ++ last ∷ []) next now).list in
      let c = chain m law n (es ++ e ∷ []) (before ++ last ∷ []) next now in
      let at : moment (before ++ last ∷ []) next (length before) ≡ Some last = get-more (before ++ last ∷ []) (next ∷ []) (length before) last (get-last before last) in
      let same : take (length before) (before ++ last ∷ []) ≡ before = sym (take_append (length before) before (last ∷ []) (omega arith)) ∙ take_all (length before) before (omega arith) in
      let a : Agree (length old.list) old.list B = chain_front (before ++ last ∷ []) next B (length before) last old.list c at (subst (λ p. Chain p last old.list) (sym same) old.chain) in
      let shown = λ (i : ℕ) (s : Raft C) (here : slice_get next.servers i ≡ Some s).
      c.agrees (length (before ++ last ∷ [])) i s (record { world = next; world_is = get-last (before ++ last ∷ []) next; here = here }) in
      record {
        list = B;
        refines = moves next _ old.refines
            (step_on m last next e (event_moves m last next e is h) old.list B a
            (list_sound m law n (es ++ e ∷ []) (before ++ last ∷ []) next now B c) (list_rises m law n (es ++ e ∷ []) (before ++ last ∷ []) next now B c) shown)
            (record { servers = refl; entries = shown });
        chain = c;
      }

  pub every_log : (events : List (Event C)) (past : List (World C)) (w : World C) → Run m n events past w → RefinesLog m n past w
  every_log events past w r = let c = comes events past w r in (_, c.refines)
