-- The specification is safe, action by action.
use Rattle.std.proofs.Common.{◌≡◌, ℕ, zero, suc, ◌-◌, ◌≤◌, inl, inr, Option, Some, None, List, [], ◌∷◌, ◌++◌, length, take, replicate, refl, sym, ap, ◌∙◌, subst, arith, slice_get, take_all, ◌≢◌, ◌⊎◌, nat_eq, slice_set}
use Rattle.std.proofs.lemmas.Bool.Decides.{leb_tells}
use Rattle.std.proofs.lemmas.Option.{same_Some}
use Rattle.std.proofs.lemmas.Bool.{eqb-true, eqb-false}
use Rattle.raft_model.proofs.Cases.{bool_cases}
use Rattle.rows.specs.declared.allocation.AllocId.{AllocId}
use Rattle.rows.specs.declared.command.AcceptedPlan.{AcceptedPlan}
use Rattle.rows.specs.declared.command.Command.{Command}
use Rattle.rows.specs.declared.command.Command.TheVariants as commands
use Rattle.machine_model.specs.declared.entry.Entry.{Entry}
use Rattle.raft_safety.proofs.Places.{take_get, get_set-same, get_set-cases, get-where, get-one, get-more, get-within, take_append, take_none, push_length}
use Rattle.fsm_model.specs.Words.{State, no_rows}
use Rattle.fsm_model.specs.Effect.{applied}
use Rattle.fsm_model.specs.Admission.{admission}
use Rattle.fsm_model.specs.SafeFacts.{Safe}
use Rattle.fsm_model.proofs.SafeLaws.{keeps_safe}
use Rattle.fsm_model.proofs.ClusterMachine.{cluster_lawful}
use Rattle.spec.specs.Spec.{SpecState, init, state_from, state_of, ServerStep, applies, crashes, restarts, IsPlaced, Action, appends, commits, at_server, starts, delivers, ends, Actions, none, more}
use Rattle.raft_model.specs.Logs.{term_at}
use Rattle.group_safety.proofs.Fresh.{term_get}
use Rattle.spec.specs.Safety.{WasOutstanding, IsAllocated, Stays}
use Rattle.spec.specs.Safety as safety

-- the same in the specification's own words
record Holds (n c : ℕ) (g : SpecState) : Type 0 where
  within : g.committed ≤ length g.log
  only_committed : (i k : ℕ) → slice_get g.last_applied i ≡ Some (Some k) → k ≤ g.committed
  terms : (p : ℕ) (d e : Entry Command) → slice_get g.log p ≡ Some d → slice_get g.log (suc p) ≡ Some e → d.term ≤ e.term
  safe : (k : ℕ) → Safe (state_of (take k g.log))
  backed : (p : ℕ) (e : Entry Command) (plan : AcceptedPlan) → slice_get g.log p ≡ Some e → e.command ≡ commands.Plan plan → WasOutstanding n c g p e.term plan
  placed : (k : ℕ) (ids : List AllocId) (j : ℕ) (id : AllocId) → slice_get g.started k ≡ Some ids → slice_get ids j ≡ Some id → IsPlaced g (suc k) id
  once : (k : ℕ) (ids : List AllocId) (i j : ℕ) (id : AllocId) → slice_get g.started k ≡ Some ids → slice_get ids i ≡ Some id → slice_get ids j ≡ Some id → i ≡ j

told : (g : SpecState) (node : ℕ) (id : AllocId) → IsPlaced g node id → IsAllocated g node id
told g node id p = record {
  plan = p.plan;
  place = p.place;
  term = (let e = p.entry in e.term);
  one = p.one;
  plan_is = take_get g.committed g.log (id.index - 1) (omega (arith, p.one, p.committed)) ∙ (p.entry_is ∙ ap (λ (c : Command). Some (record { term = (let e = p.entry in e.term); command = c })) p.plan_is);
  place_is = p.place_is;
  on = p.on;
}

none_at : {A : Type 0} (n : ℕ) (a x : A) (i : ℕ) → slice_get (replicate n a) i ≡ Some x → a ≡ x
none_at zero a x i h = absurd (cc)
none_at (suc n) a x zero h = same_Some a x h
none_at (suc n) a x (suc i) h = none_at n a x i h

state_more : (s : State) (A : List (Entry Command)) (e : Entry Command) → state_from s (A ++ e ∷ []) ≡ applied (state_from s A) e.command
state_more s [] e = refl
state_more s (a ∷ A) e = state_more (applied s a.command) A e

module _ (n c : ℕ) where
  begin : Holds n c (init n c)
  begin = record {
    within = omega arith;
    only_committed = λ i k h. let q = none_at n (Some 0) (Some k) i h in omega (arith, same_Some 0 k q);
    terms = λ p d e at too. absurd (cc);
    safe = λ k. subst (λ l. Safe (state_of l)) (sym (take_none k)) cluster_lawful.empty_is_safe;
    backed = λ p e plan h is. absurd (cc);
    placed = λ k ids j id h at. absurd (let q : slice_get [] j ≡ Some id = ap (λ l. slice_get l j) (none_at c [] ids k h) ∙ at in cc);
    once = λ k ids i j id h at too. absurd (let q : slice_get [] i ≡ Some id = ap (λ l. slice_get l i) (none_at c [] ids k h) ∙ at in cc);
  }

  -- a place stays one
  stays : (g h : SpecState) (node : ℕ) (id : AllocId) → g.committed ≤ h.committed → ((i : ℕ) (e : Entry Command) → slice_get g.log i ≡ Some e → slice_get h.log i ≡ Some e) → IsPlaced g node id → IsPlaced h node id
  stays g h node id le keep p = record {
    entry = p.entry;
    plan = p.plan;
    place = p.place;
    one = p.one;
    committed = omega (arith, le, p.committed);
    entry_is = keep (id.index - 1) p.entry p.entry_is;
    plan_is = p.plan_is;
    place_is = p.place_is;
    on = p.on;
  }

  -- what was appended before was so still, after an action that appends nothing
  later : (g h : SpecState) → Action g h → h.log ≡ g.log → (p term : ℕ) (plan : AcceptedPlan) → WasOutstanding n c g p term plan → WasOutstanding n c h p term plan
  later g h a same p term plan b = record {
    then = b.then;
    next = b.next;
    before = b.before;
    append = b.append;
    after = more b.after a;
    had = b.had ∙ ap (take p) (sym same);
    has = b.has ∙ ap (take (suc p)) (sym same);
    out = b.out;
  }

  safe_more : (A : List (Entry Command)) (e : Entry Command) → ((k : ℕ) → Safe (state_of (take k A))) → admission (state_of A) e.command ≡ None → (k : ℕ) → Safe (state_of (take k (A ++ e ∷ [])))
  safe_more A e safe admitted k = elim (leb_tells k (length A)) [
    | inl a ↦ subst (λ l. Safe (state_of l)) (take_append k A (e ∷ []) a.1) (safe k)
    | inr a ↦
        let whole : Safe (state_of A) = subst (λ l. Safe (state_of l)) (take_all (length A) A (omega arith)) (safe (length A)) in
        subst (λ l. Safe (state_of l)) (sym (take_all k (A ++ e ∷ []) (omega (arith, a.1, push_length A e))))
        (subst (λ s. Safe s) (sym (state_more no_rows A e)) (keeps_safe (state_of A) e.command whole admitted))
  ]

  act : (g h : SpecState) → Actions (init n c) g → Holds n c g → Action g h → Holds n c h
  act g h came was (appends e f) = record {
    within = omega (arith, was.within, push_length g.log e);
    only_committed = was.only_committed;
    terms = λ p d x at too. elim (get-where g.log (e ∷ []) (suc p) x too) [
      | inl q ↦ elim (get-where g.log (e ∷ []) p d at) [ inl r ↦ was.terms p d x r.1 q.1 | inr r ↦ absurd (omega (arith, q.0, r.0)) ]
      | inr q ↦
          let inside = get-within (g.log ++ e ∷ []) (suc p) x too in
          elim (get-where g.log (e ∷ []) p d at) [
            | inl r ↦ omega (arith, f.term, ap (term_at g.log) (let z : length g.log ≡ suc p = omega (arith, q.0, inside, push_length g.log e) in z), term_get g.log p d r.1, ap (λ (v : Entry Command). v.term) (get-one e q.1.0 x q.1.1))
            | inr r ↦ absurd (omega (arith, r.0, inside, push_length g.log e))
          ]
    ];
    safe = safe_more g.log e was.safe f.admitted;
    backed = λ p d plan at is. elim (get-where g.log (e ∷ []) p d at) [
      | inl q ↦ let b = was.backed p d plan q.1 is in record { then = b.then; next = b.next; before = b.before; append = b.append; after = more b.after (appends e f); had = b.had ∙ take_append p g.log (e ∷ []) (omega (arith, q.0)); has = b.has ∙ take_append (suc p) g.log (e ∷ []) (omega (arith, q.0)); out = b.out }
      | inr q ↦
          let inside = get-within (g.log ++ e ∷ []) p d at in
          let now : p ≡ length g.log = omega (arith, q.0, inside, push_length g.log e) in
          let same : e ≡ d = get-one e q.1.0 d q.1.1 in
          let out : g.outstanding d.term plan.eval ≡ Some plan.token = subst (λ (v : Entry Command). g.outstanding v.term plan.eval ≡ Some plan.token) same (f.token plan (ap (λ (v : Entry Command). v.command) same ∙ is)) in
          record { then = g; next = h; before = came; append = appends e f; after = none; had = sym (take_all p g.log (omega (arith, now))) ∙ take_append p g.log (e ∷ []) (omega (arith, now)); has = sym (take_all (suc p) (g.log ++ e ∷ []) (omega (arith, now, push_length g.log e))); out = out }
    ];
    placed = λ k ids j id at there. stays g h (suc k) id (omega arith) (λ i d w. get-more g.log (e ∷ []) i d w) (was.placed k ids j id at there);
    once = was.once;
  }
  act g h came was (commits k rise fits) = record {
    within = fits;
    only_committed = λ i j at. omega (arith, rise, was.only_committed i j at);
    terms = was.terms;
    safe = was.safe;
    backed = λ q e plan at is. later g h (commits k rise fits) refl q e.term plan (was.backed q e plan at is);
    placed = λ c ids j id at there. stays g h (suc c) id rise (λ i d w. w) (was.placed c ids j id at there);
    once = was.once;
  }
  act g h came was (at_server i old new here m) = record {
    within = was.within;
    only_committed = λ j k at. elim (get_set-cases g.last_applied i new j (Some k) at) [
      | inl q ↦ moved old new m k q.1
      | inr q ↦ was.only_committed j k q.1
    ];
    terms = was.terms;
    safe = was.safe;
    backed = λ q e plan at is. later g h (at_server i old new here m) refl q e.term plan (was.backed q e plan at is);
    placed = λ c ids j id at there. stays g h (suc c) id (omega arith) (λ i d w. w) (was.placed c ids j id at there);
    once = was.once;
  } where
    moved : (old new : Option ℕ) → ServerStep g.committed old new → (k : ℕ) → new ≡ Some k → k ≤ g.committed
    moved old new (applies a b rise fits) k e = omega (arith, fits, same_Some b k e)
    moved old new (crashes a) k e = absurd (cc)
    moved old new (restarts b fits) k e = omega (arith, fits, same_Some b k e)
  act g h came was (starts d ids id here new p) = record {
    within = was.within;
    only_committed = was.only_committed;
    terms = was.terms;
    safe = was.safe;
    backed = λ q e plan at is. later g h (starts d ids id here new p) refl q e.term plan (was.backed q e plan at is);
    placed = λ k all j x at there. elim (get_set-cases g.started d (ids ++ id ∷ []) k all at) [
      | inl q ↦
          let there_too : slice_get (ids ++ id ∷ []) j ≡ Some x = ap (λ l. slice_get l j) q.1 ∙ there in
          subst (λ v. IsPlaced h (suc v) x) (sym q.0) (elim (get-where ids (id ∷ []) j x there_too) [
            | inl r ↦ stays g h (suc d) x (omega arith) (λ i e w. w) (was.placed d ids j x here r.1)
            | inr r ↦ subst (λ v. IsPlaced h (suc d) v) (get-one id r.1.0 x r.1.1) (stays g h (suc d) id (omega arith) (λ i e w. w) p)
          ])
      | inr q ↦ stays g h (suc k) x (omega arith) (λ i e w. w) (was.placed k all j x q.1 there)
    ];
    once = λ k all i j x at one two. elim (get_set-cases g.started d (ids ++ id ∷ []) k all at) [
      | inl q ↦ same_place i j x (ap (λ l. slice_get l i) q.1 ∙ one) (ap (λ l. slice_get l j) q.1 ∙ two)
      | inr q ↦ was.once k all i j x q.1 one two
    ];
  } where
    same_place : (i j : ℕ) (x : AllocId) → slice_get (ids ++ id ∷ []) i ≡ Some x → slice_get (ids ++ id ∷ []) j ≡ Some x → i ≡ j
    same_place i j x one two =
        let wi = get-within (ids ++ id ∷ []) i x one in
        let wj = get-within (ids ++ id ∷ []) j x two in
        let size = push_length ids id in
        elim (get-where ids (id ∷ []) i x one) [
          | inl a ↦ elim (get-where ids (id ∷ []) j x two) [
            | inl b ↦ was.once d ids i j x here a.1 b.1
            | inr b ↦ absurd (new i (a.1 ∙ ap Some (sym (get-one id b.1.0 x b.1.1))))
          ]
          | inr a ↦ elim (get-where ids (id ∷ []) j x two) [
            | inl b ↦ absurd (new j (b.1 ∙ ap Some (sym (get-one id a.1.0 x a.1.1))))
            | inr b ↦ omega (arith, a.0, b.0, wi, wj, size)
          ]
        ]
  act g h came was (delivers eval token k le pending free newest) = record {
    within = was.within;
    only_committed = was.only_committed;
    terms = was.terms;
    safe = was.safe;
    backed = λ q e plan at is. later g h (delivers eval token k le pending free newest) refl q e.term plan (was.backed q e plan at is);
    placed = λ c ids j id at there. stays g h (suc c) id (omega arith) (λ i d w. w) (was.placed c ids j id at there);
    once = was.once;
  }
  act g h came was (ends outstanding stays_so) = record {
    within = was.within;
    only_committed = was.only_committed;
    terms = was.terms;
    safe = was.safe;
    backed = λ q e plan at is. later g h (ends outstanding stays_so) refl q e.term plan (was.backed q e plan at is);
    placed = λ c ids j id at there. stays g h (suc c) id (omega arith) (λ i d w. w) (was.placed c ids j id at there);
    once = was.once;
  }

  holds : (g : SpecState) → Actions (init n c) g → Holds n c g
  holds g none = begin
  holds g (more {h = h} a b) = act h g a (holds h a) b

  pub safe : (g : SpecState) → Actions (init n c) g → safety.IsSafe n c g
  safe g a = let p = holds g a in record {
    within = p.within;
    only_committed = p.only_committed;
    terms = p.terms;
    safe = p.safe;
    backed = λ q term plan at. p.backed q (record { term = term; command = commands.Plan plan }) plan at refl;
    placed = λ k ids j id at there. told g (suc k) id (p.placed k ids j id at there);
    once = p.once;
  }

-- while a server is up it never goes back
moved_up : (committed : ℕ) (old new : Option ℕ) → ServerStep committed old new → (j k : ℕ) → old ≡ Some j → new ≡ Some k → j ≤ k
moved_up committed old new (applies a b rise fits) j k e f = omega (arith, rise, same_Some a j e, same_Some b k f)
moved_up committed old new (crashes a) j k e f = absurd (cc)
moved_up committed old new (restarts b fits) j k e f = absurd (cc)

same_up : (l : List (Option ℕ)) (i j k : ℕ) → slice_get l i ≡ Some (Some j) → slice_get l i ≡ Some (Some k) → j ≤ k
same_up l i j k a b = omega (arith, same_Some j k (same_Some (Some j) (Some k) (sym a ∙ b)))

pub stays_up : (g h : SpecState) → Action g h → (i j k : ℕ) → slice_get g.last_applied i ≡ Some (Some j) → slice_get h.last_applied i ≡ Some (Some k) → j ≤ k
stays_up g h (appends e f) i j k a b = same_up g.last_applied i j k a b
stays_up g h (commits m rise fits) i j k a b = same_up g.last_applied i j k a b
stays_up g h (at_server d old new here m) i j k a b = elim (get_set-cases g.last_applied d new i (Some k) b) [
  | inl q ↦ moved_up g.committed old new m j k (same_Some old (Some j) (sym here ∙ (ap (slice_get g.last_applied) (sym q.0) ∙ a))) q.1
  | inr q ↦ same_up g.last_applied i j k a q.1
]
stays_up g h (starts c ids id here new p) i j k a b = same_up g.last_applied i j k a b
stays_up g h (delivers eval token m le pending free newest) i j k a b = same_up g.last_applied i j k a b
stays_up g h (ends outstanding stays_so) i j k a b = same_up g.last_applied i j k a b

-- ---- what is there stays

case_nat : (m n : ℕ) → (m ≡ n) ⊎ (m ≢ n)
case_nat m n = elim (bool_cases (nat_eq m n)) [ inl e ↦ inl (eqb-true m n e) | inr e ↦ inr (eqb-false m n e) ]

get_set-other : {A : Type 0} (xs : List A) (i : ℕ) (x : A) (j : ℕ) → (i ≢ j) → slice_get (slice_set xs i x) j ≡ slice_get xs j
get_set-other [] i x j other = refl
get_set-other (y ∷ ys) zero x zero other = absurd (other refl)
get_set-other (y ∷ ys) zero x (suc j) other = refl
get_set-other (y ∷ ys) (suc i) x zero other = refl
get_set-other (y ∷ ys) (suc i) x (suc j) other = get_set-other ys i x j (λ e. other (ap suc e))

stays_one : (g h : SpecState) → Action g h → Stays g h
stays_one g h (appends e f) = record {
  committed = omega arith;
  entries = λ p d at. get-more g.log (e ∷ []) p d at;
  started = λ k ids j id at there. (ids, at, there);
  delivered = λ j pair at. at;
}
stays_one g h (commits m rise fits) = record {
  committed = rise;
  entries = λ p d at. at;
  started = λ k ids j id at there. (ids, at, there);
  delivered = λ j pair at. at;
}
stays_one g h (at_server i old new here m) = record {
  committed = omega arith;
  entries = λ p d at. at;
  started = λ k ids j id at there. (ids, at, there);
  delivered = λ j pair at. at;
}
stays_one g h (starts c all id here new p) = record {
  committed = omega arith;
  entries = λ p d at. at;
  started = λ k ids j x at there. elim (case_nat c k) [
    | inl same ↦ (
      all ++ id ∷ [],
      subst (λ i. slice_get (slice_set g.started c (all ++ id ∷ [])) i ≡ Some (all ++ id ∷ [])) same (get_set-same g.started c (all ++ id ∷ []) (get-within g.started c all here)),
      get-more all (id ∷ []) j x (ap (λ l. slice_get l j) (same_Some all ids (sym here ∙ (ap (slice_get g.started) same ∙ at))) ∙ there),
    )
    | inr other ↦ (ids, get_set-other g.started c (all ++ id ∷ []) k other ∙ at, there)
  ];
  delivered = λ j pair at. at;
}
stays_one g h (delivers eval token k le pending free newest) = record {
  committed = omega arith;
  entries = λ p d at. at;
  started = λ k ids j id at there. (ids, at, there);
  delivered = λ j pair at. get-more g.delivered ((eval, token) ∷ []) j pair at;
}
stays_one g h (ends outstanding stays_so) = record {
  committed = omega arith;
  entries = λ p d at. at;
  started = λ k ids j id at there. (ids, at, there);
  delivered = λ j pair at. at;
}

stays_both : (f g h : SpecState) → Stays f g → Stays g h → Stays f h
stays_both f g h a b = record {
  committed = omega (arith, a.committed, b.committed);
  entries = λ p e at. b.entries p e (a.entries p e at);
  started = λ k ids j id at there. let s = a.started k ids j id at there in b.started k s.0 j id s.1 s.2;
  delivered = λ j pair at. b.delivered j pair (a.delivered j pair at);
}

pub nothing_lost : (g h : SpecState) → Actions g h → Stays g h
nothing_lost g h none = record {
  committed = omega arith;
  entries = λ p e at. at;
  started = λ k ids j id at there. (ids, at, there);
  delivered = λ j pair at. at;
}
nothing_lost g h (more {h = f} a b) = stays_both g f h (nothing_lost g f a) (stays_one f h b)
