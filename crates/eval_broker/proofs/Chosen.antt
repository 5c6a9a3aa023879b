-- The first of the heads is the task that goes next.
use Rattle.std.proofs.Common.{◌≡◌, ℕ, ◌<◌, arith, Bool, true, false, cond, not, ◌&&◌, T, List, [], ◌∷◌, Option, Some, None, is_some, refl, sym, ap, subst, ◌∙◌}
use Rattle.std.specs.Prelude.{nat_lt, bytes_eq, ◌||◌}
use Rattle.std.specs.List.{list_any, slice_get, AllByRecursion}
use Rattle.std.proofs.lemmas.Map.Text.{is_eq-slice_cmp}
use Rattle.std.proofs.lemmas.Map.Lookups.{exact_bytes}
use Rattle.std.proofs.lemmas.Cmp.{upto}
use Rattle.std.specs.declared.cmp.Ordering.{Ordering}
use Rattle.std.specs.declared.cmp.Ordering.TheVariants.{Less, Equal, Greater}
use Rattle.std.specs.Ordering.{bool_cmp, is_eq, is_gt, ordering_then}
use Rattle.std.specs.Cmp.{tied_itself}
use Rattle.std.specs.Cmp.Lexicographic.{nat_list_cmp_total}
use Rattle.rows.specs.Keys.{name_cmp, eval_cmp}
use Rattle.rows.proofs.KeyLaws.{eval_cmp_total}
use Rattle.rows.specs.Rising.{is_rising}
use Rattle.fsm_tables.specs.Rows.{row_of}
use Rattle.fsm_tables.proofs.RowLaws.{first, second, some_same}
use Rattle.fsm_tables.proofs.SetLaws.{found_first}
use Rattle.fsm_tables.specs.declared.urgency.Urgency.{Urgency}
use Rattle.fsm_tables.specs.Urgencies.{urgency_cmp}
use Rattle.fsm_tables.proofs.ReservedTables.{found_tied}
use Rattle.fsm_tables.proofs.Urgencies.{urgency_cmp_total}
use Rattle.group_model.specs.Brokers.{Task, task_id, task_of, is_free, MOST, job_is_free, may_be_given, next}
use Rattle.group_model.proofs.KeptRows.{all_found}
use Rattle.eval_broker.specs.declared.ranks.Rank.{Rank}
use Rattle.eval_broker.specs.declared.ranks.Head.{Head}
use Rattle.eval_broker.specs.Answers.{urgency_of}
use Rattle.eval_broker.specs.Inner.Lists.{rank_cmp, head_cmp, rank_job, rank_id, head_id, rank_of, is_any, holds_key, is_listed, IsListing, first_head, head_of, is_head, AreHeads}
use Rattle.eval_broker.proofs.Orders.{rank_total, head_total, then_first, then_second, is_equal, same_urgency, no, true_false, and_left, and_right, has_first, first_least}
use Rattle.eval_broker.proofs.Heads.{found_there, head_job}
use Rattle.eval_broker.proofs.First.{NoLater, found_later, first_is, none_passes, first_passes}

-- whether a task is out or acked, of this job
abbrev is_busy : List ℕ → Task → Bool
is_busy job t = bytes_eq t.job job && not (is_free t.mark)

same_flag : (a b : Bool) → bool_cmp a b ≡ Equal → a ≡ b
same_flag true true e = refl
same_flag true false e = absurd (cc)
same_flag false true e = absurd (cc)
same_flag false false e = refl

same_rank : (a b : Rank) → rank_cmp a b ≡ Equal → a ≡ b
same_rank a b e =
    let job = exact_bytes a.job b.job (then_first (name_cmp a.job b.job) _ e) in
    let rest = then_second (name_cmp a.job b.job) _ e in
    let free = same_flag a.is_free b.is_free (then_first (bool_cmp a.is_free b.is_free) _ rest) in
    let later = then_second (bool_cmp a.is_free b.is_free) _ rest in
    let spent = same_flag a.is_spent b.is_spent (then_first (bool_cmp a.is_spent b.is_spent) _ later) in
    let urgency = same_urgency a.urgency b.urgency (then_second (bool_cmp a.is_spent b.is_spent) _ later) in
    λ i. record { job = job i; is_free = free i; is_spent = spent i; urgency = urgency i }

-- ---- tasks that pass

pub any_of : (f : Task → Bool) (ts : List Task) → T (is_rising eval_cmp task_id ts) → list_any f ts ≡ true → (t : Task) × (task_of t.id ts ≡ Some t) × (f t ≡ true)
any_of f [] rising h = absurd (cc)
any_of f (y ∷ ts) rising h = by (f y) refl h (any_of f ts (second _ _ rising)) where
  by : (b : Bool) → f y ≡ b → list_any f (y ∷ ts) ≡ true → (list_any f ts ≡ true → (t : Task) × (task_of t.id ts ≡ Some t) × (f t ≡ true)) → (t : Task) × (task_of t.id (y ∷ ts) ≡ Some t) × (f t ≡ true)
  by true e h rest = (y, found_first eval_cmp task_id eval_cmp_total y ts, e)
  by false e h rest =
      let one = rest (ap (λ (b : Bool). b || list_any f ts) (sym e) ∙ h) in
      (one.0, found_later one.0.id y ts one.0 (first _ _ rising) one.1, one.2)

pub any_with : (f : Task → Bool) (ts : List Task) (t : Task) → task_of t.id ts ≡ Some t → f t ≡ true → list_any f ts ≡ true
any_with f [] t found is = absurd (cc)
any_with f (y ∷ ts) t found is = by (is_eq (eval_cmp t.id y.id)) found (λ later. any_with f ts t later is) where
  by : (b : Bool) → cond b (Some y) (task_of t.id ts) ≡ Some t → (task_of t.id ts ≡ Some t → list_any f ts ≡ true) → list_any f (y ∷ ts) ≡ true
  by true e rest = ap (λ b. b || list_any f ts) (ap f (some_same _ _ e) ∙ is)
  by false e rest = at (f y) (rest e) where
    at : (b : Bool) → list_any f ts ≡ true → (b || list_any f ts) ≡ true
    at true h = refl
    at false h = h

-- ---- ranks

-- a job's first rank is no later than another of its ranks
least : (job : List ℕ) (ps : List Rank) → T (is_rising rank_cmp (λ p. p) ps) → (q : Rank) → holds_key rank_cmp q ps ≡ true → job ≡ q.job
    → (p : Rank) × (row_of name_cmp rank_job job ps ≡ Some p) × (is_gt (rank_cmp p q) ≡ false)
least job [] rising q there is = absurd (cc)
least job (y ∷ ps) rising q there is = by (is_eq (name_cmp job y.job)) refl (λ later. least job ps (second _ _ rising) q later is) where
  apart : (b : Bool) → is_eq (rank_cmp q y) ≡ b → is_eq (name_cmp job y.job) ≡ false → is_some (cond b (Some y) (row_of rank_cmp (λ p. p) q ps)) ≡ true → holds_key rank_cmp q ps ≡ true
  apart true e off h =
      true_false _ (ap (λ k. is_eq (name_cmp k y.job)) is ∙ ap is_eq (then_first (name_cmp q.job y.job) _ (is_equal _ e))) off
  apart false e off h = h

  by : (b : Bool) → is_eq (name_cmp job y.job) ≡ b → (holds_key rank_cmp q ps ≡ true → (p : Rank) × (row_of name_cmp rank_job job ps ≡ Some p) × (is_gt (rank_cmp p q) ≡ false))
      → (p : Rank) × (cond b (Some y) (row_of name_cmp rank_job job ps) ≡ Some p) × (is_gt (rank_cmp p q) ≡ false)
  by true e rest = (y, refl, first_least rank_cmp rank_total y q ps rising there)
  by false e rest = rest (apart (is_eq (rank_cmp q y)) refl e there)

-- a free rank no later than one that waits waits, and is no later by urgency
waits_too : (p : Rank) (u : Urgency) (job : List ℕ) → p.job ≡ job → p.is_free ≡ true → is_gt (rank_cmp p (record { job = job; is_free = true; is_spent = false; urgency = u })) ≡ false
    → (p.is_spent ≡ false) × (is_gt (urgency_cmp p.urgency u) ≡ false)
waits_too p u job is free h =
    by p.is_spent
    (sym (ap is_gt (
    ap (λ k. ordering_then (name_cmp k job) (ordering_then (bool_cmp p.is_free true) (ordering_then (bool_cmp p.is_spent false) (urgency_cmp p.urgency u)))) is
    ∙ ap (λ r. ordering_then r (ordering_then (bool_cmp p.is_free true) (ordering_then (bool_cmp p.is_spent false) (urgency_cmp p.urgency u)))) (tied_itself nat_list_cmp_total job)
    ∙ ap (λ b. ordering_then (bool_cmp b true) (ordering_then (bool_cmp p.is_spent false) (urgency_cmp p.urgency u))) free
    )) ∙ h)
  where
    by : (b : Bool) → is_gt (ordering_then (bool_cmp b false) (urgency_cmp p.urgency u)) ≡ false → (b ≡ false) × (is_gt (urgency_cmp p.urgency u) ≡ false)
    by true e = absurd (cc)
    by false e = (refl, e)

-- and no rank that is not free comes behind one that is, of one job
no_busy_behind : (p q : Rank) → p.job ≡ q.job → p.is_free ≡ true → q.is_free ≡ false → is_gt (rank_cmp p q) ≡ false → ⊥
no_busy_behind p q is free busy h =
    true_false _
    (ap is_gt (
    ap (λ k. ordering_then (name_cmp k q.job) (ordering_then (bool_cmp p.is_free q.is_free) (ordering_then (bool_cmp p.is_spent q.is_spent) (urgency_cmp p.urgency q.urgency)))) is
    ∙ ap (λ r. ordering_then r (ordering_then (bool_cmp p.is_free q.is_free) (ordering_then (bool_cmp p.is_spent q.is_spent) (urgency_cmp p.urgency q.urgency)))) (tied_itself nat_list_cmp_total q.job)
    ∙ (λ i. ordering_then (bool_cmp (free i) (busy i)) (ordering_then (bool_cmp p.is_spent q.is_spent) (urgency_cmp p.urgency q.urgency)))
    )) h

first_not_late : (r s : Ordering) → is_gt (ordering_then r s) ≡ false → is_gt r ≡ false
first_not_late Less s h = refl
first_not_late Equal s h = refl
first_not_late Greater s h = h

module _ (ts : List Task) (ps : List Rank) (hs : List Head) (rising : T (is_rising eval_cmp task_id ts)) (placed : IsListing rank_cmp rank_id rank_of is_any ts ps) (heads : AreHeads ps hs) where
  stands : (t : Task) → task_of t.id ts ≡ Some t → holds_key rank_cmp (rank_of t) ps ≡ true
  stands t found = placed.exact (rank_of t) ∙ ap (is_listed rank_cmp rank_of is_any (rank_of t)) found ∙ ap is_eq (tied_itself rank_total (rank_of t))

  task_at : (p : Rank) → holds_key rank_cmp p ps ≡ true → (t : Task) × (task_of (rank_id p) ts ≡ Some t) × (p ≡ rank_of t)
  task_at p there = by (task_of (rank_id p) ts) refl (sym (placed.exact p) ∙ there) where
    by : (m : Option Task) → task_of (rank_id p) ts ≡ m → is_listed rank_cmp rank_of is_any p m ≡ true → (t : Task) × (task_of (rank_id p) ts ≡ Some t) × (p ≡ rank_of t)
    by None e h = absurd (cc)
    by (Some t) e h = (t, e, same_rank p (rank_of t) (is_equal _ h))

  -- under its own id
  own : (p : Rank) (t : Task) → task_of (rank_id p) ts ≡ Some t → p ≡ rank_of t → task_of t.id ts ≡ Some t
  own p t found is = ap (λ (x : Rank). task_of (rank_id x) ts) (sym is) ∙ found

  -- of each job of which one may be given out, the head comes no later than it
  head_before : (t : Task) → task_of t.id ts ≡ Some t → may_be_given ts t ≡ true → (h : Head) × (head_of t.job ps ≡ Some h) × (is_gt (urgency_cmp h.urgency (urgency_of t)) ≡ false)
  head_before t found may =
      let free : is_free t.mark ≡ true = and_left (is_free t.mark) _ (and_left (is_free t.mark && nat_lt t.deliveries MOST) _ may) in
      let few : nat_lt t.deliveries MOST ≡ true = and_right (is_free t.mark) _ (and_left (is_free t.mark && nat_lt t.deliveries MOST) _ may) in
      let idle : job_is_free t.job ts ≡ true = and_right (is_free t.mark && nat_lt t.deliveries MOST) _ may in
      let p = least t.job ps placed.rising (rank_of t) (stands t found) refl in
      let one = task_at p.0 (found_there t.job ps p.0 p.1) in
      let job : p.0.job ≡ t.job = sym (exact_bytes t.job p.0.job (found_tied name_cmp rank_job nat_list_cmp_total t.job ps p.0 p.1)) in
      let p_free : p.0.is_free ≡ true = not_busy p.0 one.0 (own p.0 one.0 one.1 one.2) one.2 job idle in
      let waits = waits_too p.0 (urgency_of t) t.job job p_free (sym (λ i. is_gt (rank_cmp p.0 (record { job = t.job; is_free = free i; is_spent = not (few i); urgency = urgency_of t }))) ∙ p.2) in
      (record { urgency = p.0.urgency; job = p.0.job }, ap first_head p.1 ∙ (λ i. cond (p_free i && not (waits.0 i)) (Some (record { urgency = p.0.urgency; job = p.0.job })) None), waits.1)
    where
      busy_there : (p : Rank) (u : Task) → p ≡ rank_of u → p.job ≡ t.job → is_free u.mark ≡ false → is_busy t.job u ≡ true
      busy_there p u is job off =
          (λ i. bytes_eq (ap (λ (x : Rank). x.job) (sym is) i) t.job && not (off i))
          ∙ ap (λ k. bytes_eq k t.job && true) job ∙ ap (λ b. b && true) (sym (is_eq-slice_cmp t.job t.job) ∙ ap is_eq (tied_itself nat_list_cmp_total t.job))

      not_busy : (p : Rank) (u : Task) → task_of u.id ts ≡ Some u → p ≡ rank_of u → p.job ≡ t.job → job_is_free t.job ts ≡ true → p.is_free ≡ true
      not_busy p u found is job idle = ap (λ (x : Rank). x.is_free) is ∙ by (is_free u.mark) refl where
        by : (b : Bool) → is_free u.mark ≡ b → b ≡ true
        by true e = refl
        by false e = true_false _ idle (ap not (any_with (is_busy t.job) ts u found (busy_there p u is job e)))

  -- the first head is a task that may be given out
  task_of_head : (h : Head) → is_head h (head_of h.job ps) ≡ true → (t : Task) × (task_of (head_id h) ts ≡ Some t) × (may_be_given ts t ≡ true) × (h.urgency ≡ urgency_of t)
  task_of_head h is = by (row_of name_cmp rank_job h.job ps) refl is where
    Goes : Type 0
    Goes = (t : Task) × (task_of (head_id h) ts ≡ Some t) × (may_be_given ts t ≡ true) × (h.urgency ≡ urgency_of t)

    idle : (p : Rank) (t : Task) → row_of name_cmp rank_job h.job ps ≡ Some p → p ≡ rank_of t → p.is_free ≡ true → h.job ≡ p.job → list_any (is_busy t.job) ts ≡ false
    idle p t e same free job = no _ (λ any.
        let u = any_of (is_busy t.job) ts rising any in
        let busy : is_free u.0.mark ≡ false = off (is_free u.0.mark) (and_right (bytes_eq u.0.job t.job) _ u.2) in
        let its : u.0.job ≡ t.job = exact_bytes u.0.job t.job (is_equal _ (is_eq-slice_cmp u.0.job t.job ∙ and_left (bytes_eq u.0.job t.job) _ u.2)) in
        let p_job : p.job ≡ t.job = ap (λ (x : Rank). x.job) same in
        let q = least h.job ps placed.rising (rank_of u.0) (stands u.0 u.1) (job ∙ p_job ∙ sym its) in
        let one : q.0 ≡ p = some_same _ _ (sym q.1 ∙ e) in
        no_busy_behind p (rank_of u.0) (p_job ∙ sym its) free busy (sym (ap (λ (x : Rank). is_gt (rank_cmp x (rank_of u.0))) one) ∙ q.2)) where
          off : (b : Bool) → not b ≡ true → b ≡ false
          off true e = sym e
          off false e = refl

    goes : (p : Rank) → row_of name_cmp rank_job h.job ps ≡ Some p → p.is_free ≡ true → not p.is_spent ≡ true → is_head h (Some (record { urgency = p.urgency; job = p.job })) ≡ true → (t : Task) × (task_of (head_id h) ts ≡ Some t) × (may_be_given ts t ≡ true) × (h.urgency ≡ urgency_of t)
    goes p e free left tie =
        let one = task_at p (found_there h.job ps p e) in
        let urgency : h.urgency ≡ p.urgency = same_urgency h.urgency p.urgency (then_first (urgency_cmp h.urgency p.urgency) (name_cmp h.job p.job) (is_equal _ tie)) in
        let job : h.job ≡ p.job = exact_bytes h.job p.job (then_second (urgency_cmp h.urgency p.urgency) (name_cmp h.job p.job) (is_equal _ tie)) in
        let t_free : is_free one.0.mark ≡ true = ap (λ (x : Rank). x.is_free) (sym one.2) ∙ free in
        let few : nat_lt one.0.deliveries MOST ≡ true = twice (nat_lt one.0.deliveries MOST) ∙ ap (λ (x : Rank). not x.is_spent) (sym one.2) ∙ left in
        (one.0, ap (λ (u : Urgency). task_of u.id ts) urgency ∙ one.1, (λ i. (t_free i && few i) && not (idle p one.0 e one.2 free job i)), urgency ∙ ap (λ (x : Rank). x.urgency) one.2)
      where
        twice : (b : Bool) → b ≡ not (not b)
        twice true = refl
        twice false = refl

    by : (m : Option Rank) → row_of name_cmp rank_job h.job ps ≡ m → is_head h (first_head m) ≡ true → (t : Task) × (task_of (head_id h) ts ≡ Some t) × (may_be_given ts t ≡ true) × (h.urgency ≡ urgency_of t)
    by None e is = absurd (cc)
    by (Some p) e is = at (p.is_free && not p.is_spent) refl is where
      at : (b : Bool) → (p.is_free && not p.is_spent) ≡ b → is_head h (cond b (Some (record { urgency = p.urgency; job = p.job })) None) ≡ true → (t : Task) × (task_of (head_id h) ts ≡ Some t) × (may_be_given ts t ≡ true) × (h.urgency ≡ urgency_of t)
      at true w is = goes p e (and_left p.is_free _ w) (and_right p.is_free _ w) is
      at false w is = absurd (cc)

  -- the head of a job of which one may be given out is among the heads
  among_heads : (t : Task) (h : Head) → head_of t.job ps ≡ Some h → holds_key head_cmp h hs ≡ true
  among_heads t h e = heads.exact h ∙ ap (is_head h) (ap (λ k. head_of k ps) (sym (head_job t.job ps h e)) ∙ e) ∙ ap is_eq (tied_itself head_total h)

  all_tasks : (P : Task → Type 0) → ((t : Task) → task_of t.id ts ≡ Some t → P t) → AllByRecursion P ts
  all_tasks P each = go ts (all_found eval_cmp task_id eval_cmp_total ts rising) where
    go : (us : List Task) → AllByRecursion (λ t. task_of t.id ts ≡ Some t) us → AllByRecursion P us
    go [] all = tt
    go (u ∷ us) all = (each u all.0, go us all.1)

  no_next : hs ≡ [] → next ts ≡ None
  no_next none = none_passes (may_be_given ts) ts (all_tasks (λ t. may_be_given ts t ≡ true → ⊥) (λ t found may.
      let h = head_before t found may in
      true_false _ (among_heads t h.0 h.1) (ap (holds_key head_cmp h.0) none)))

  first_next : (h : Head) (rest : List Head) → hs ≡ h ∷ rest → next ts ≡ task_of (head_id h) ts
  first_next h rest is =
      let one = task_of_head h (sym (heads.exact h) ∙ ap (holds_key head_cmp h) is ∙ has_first head_cmp head_total h rest) in
      let t = one.0 in
      let found : task_of t.id ts ≡ Some t = ap (λ (u : Urgency). task_of u.id ts) (sym one.3) ∙ one.1 in
      first_is (may_be_given ts) t ts rising found one.2 (all_tasks (λ y. may_be_given ts y ≡ true → NoLater t y) (λ y there may.
      let g = head_before y there may in
      let no_later = first_least head_cmp head_total h g.0 rest (subst (λ l. T (is_rising head_cmp (λ x. x) l)) is heads.rising) (sym (ap (holds_key head_cmp g.0) is) ∙ among_heads y g.0 g.1) in
      ap (λ u. is_gt (urgency_cmp u (urgency_of y))) (sym one.3)
      ∙ upto urgency_cmp_total h.urgency g.0.urgency (urgency_of y) (first_not_late (urgency_cmp h.urgency g.0.urgency) _ no_later) g.2))
      ∙ sym one.1

  abbrev pub task_at_head : Option Head → Option Task
  task_at_head None = None
  task_at_head (Some h) = task_of (head_id h) ts

  -- by the first head, if there is one
  pub next_by_first : (m : Option Head) → m ≡ slice_get hs 0 → task_at_head m ≡ next ts
  next_by_first m is = ap task_at_head is ∙ go hs refl where
    go : (l : List Head) → hs ≡ l → task_at_head (slice_get l 0) ≡ next ts
    go [] e = sym (no_next e)
    go (h ∷ rest) e = sym (first_next h rest e)

-- what goes next is there, and was given out less than three times
pub next_there : (ts : List Task) (t : Task) → T (is_rising eval_cmp task_id ts) → next ts ≡ Some t → task_of t.id ts ≡ Some t
next_there ts t rising e = (first_passes (λ x. task_of x.id ts ≡ Some x) (may_be_given ts) ts t (all_found eval_cmp task_id eval_cmp_total ts rising) e).0

pub next_few : (ts : List Task) (t : Task) → T (is_rising eval_cmp task_id ts) → next ts ≡ Some t → t.deliveries < MOST
next_few ts t rising e =
    let may = (first_passes (λ x. task_of x.id ts ≡ Some x) (may_be_given ts) ts t (all_found eval_cmp task_id eval_cmp_total ts rising) e).1 in
    below t.deliveries (and_right (is_free t.mark) _ (and_left (is_free t.mark && nat_lt t.deliveries MOST) _ may))
  where
    below : (n : ℕ) → nat_lt n 3 ≡ true → n < 3
    below n e = grind arith
