-- The first of the highest priority, of tasks in rising id.
use Rattle.std.proofs.Common.{◌≡◌, ℕ, ◌<◌, Bool, true, false, cond, T, List, [], ◌∷◌, Option, Some, None, refl, ap, subst, ◌∙◌, arith}
use Rattle.std.specs.Prelude.{filter, nat_lt}
use Rattle.std.specs.List.{AllByRecursion}
use Rattle.std.specs.declared.cmp.Ordering.{Ordering}
use Rattle.std.specs.declared.cmp.Ordering.TheVariants.{Less, Equal, Greater}
use Rattle.std.specs.Ordering.{nat_cmp, is_eq, is_gt, ordering_then, ordering_reverse}
use Rattle.rows.specs.declared.evaluation.EvalId.{EvalId}
use Rattle.rows.specs.Keys.{eval_cmp}
use Rattle.rows.proofs.KeyLaws.{eval_cmp_total}
use Rattle.rows.specs.Rising.{is_below, is_rising}
use Rattle.fsm_tables.proofs.RowLaws.{first, second, less, none_below, some_same}
use Rattle.fsm_tables.specs.Urgencies.{urgency_cmp}
use Rattle.group_model.specs.Order.{Picked, or_head, pick, picked_one}
use Rattle.group_model.specs.Brokers.{Task, task_id, task_of}
use Rattle.eval_broker.specs.Answers.{urgency_of}
use Rattle.eval_broker.proofs.Orders.{same_id, is_equal, true_false, none_some}

abbrev priority : Task → ℕ
priority t = t.priority

abbrev first_task : List Task → Option Task
first_task ts = picked_one priority (pick priority ts)

-- one task comes no later than another
abbrev pub NoLater : Task → Task → Type 0
NoLater t y = is_gt (urgency_cmp (urgency_of t) (urgency_of y)) ≡ false

-- what holds of all holds of the one that is picked
picked_all : (P : Task → Type 0) (ts : List Task) → AllByRecursion P ts → (k : Picked Task) → pick priority ts ≡ Some k → P k.one
picked_all P [] all k e = absurd (cc)
picked_all P (t ∷ ts) all k e = by (pick priority ts) (picked_all P ts all.1) e where
  by : (o : Option (Picked Task)) → ((k : Picked Task) → o ≡ Some k → P k.one) → Some (or_head priority t ts o) ≡ Some k → P k.one
  by None rest e =
      let same : record { one = t; others = ts } ≡ k = cc in
      subst (λ (p : Picked Task). P p.one) same all.0
  by (Some q) rest e = at (nat_lt (priority t) (priority q.one)) e where
    at : (b : Bool) → Some (cond b (record { one = q.one; others = t ∷ q.others }) (record { one = t; others = ts })) ≡ Some k → P k.one
    at true e =
        let same : record { one = q.one; others = t ∷ q.others } ≡ k = cc in
        subst (λ (p : Picked Task). P p.one) same (rest q refl)
    at false e =
        let same : record { one = t; others = ts } ≡ k = cc in
        subst (λ (p : Picked Task). P p.one) same all.0

-- the head is first where none that follows has a higher priority
head_first : (t : Task) (ts : List Task) → AllByRecursion (λ y. nat_lt (priority t) (priority y) ≡ false) ts → first_task (t ∷ ts) ≡ Some t
head_first t ts all = by (pick priority ts) (picked_all (λ y. nat_lt (priority t) (priority y) ≡ false) ts all) where
  by : (o : Option (Picked Task)) → ((k : Picked Task) → o ≡ Some k → nat_lt (priority t) (priority k.one) ≡ false) → picked_one priority (Some (or_head priority t ts o)) ≡ Some t
  by None all = refl
  by (Some k) all = ap (λ b. picked_one priority (Some (cond b (record { one = k.one; others = t ∷ k.others }) (record { one = t; others = ts })))) (all k refl)

-- and is passed where the first of those that follow has one
head_passed : (t y : Task) (ts : List Task) → first_task ts ≡ Some t → nat_lt (priority y) (priority t) ≡ true → first_task (y ∷ ts) ≡ Some t
head_passed t y ts e lt = by (pick priority ts) e where
  by : (o : Option (Picked Task)) → picked_one priority o ≡ Some t → picked_one priority (Some (or_head priority y ts o)) ≡ Some t
  by None e = absurd (cc)
  by (Some k) e =
      let same : k.one ≡ t = some_same _ _ e in
      ap (λ b. picked_one priority (Some (cond b (record { one = k.one; others = y ∷ k.others }) (record { one = y; others = ts })))) (ap (λ (x : Task). nat_lt (priority y) (priority x)) same ∙ lt) ∙ e

-- ---- by urgency

no_later_priority : (a b : ℕ) (s : Ordering) → is_gt (ordering_then (nat_cmp b a) s) ≡ false → nat_lt a b ≡ false
no_later_priority a b s h = by (nat_lt a b) refl where
  greater : (x y : ℕ) → x < y → nat_cmp y x ≡ Greater
  greater x y lt = grind arith

  below : (x y : ℕ) → nat_lt x y ≡ true → x < y
  below x y e = grind arith

  by : (c : Bool) → nat_lt a b ≡ c → c ≡ false
  by true e = true_false _ (ap (λ r. is_gt (ordering_then r s)) (greater a b (below a b e))) h
  by false e = refl

later_priority : (a b : ℕ) (s : Ordering) → is_gt s ≡ true → is_gt (ordering_then (nat_cmp b a) s) ≡ false → nat_lt b a ≡ true
later_priority a b s late h = by (nat_cmp b a) refl h where
  by : (r : Ordering) → nat_cmp b a ≡ r → is_gt (ordering_then r s) ≡ false → nat_lt b a ≡ true
  by Less e h = lesser b a e where
    lesser : (x y : ℕ) → nat_cmp x y ≡ Less → nat_lt x y ≡ true
    lesser x y e = grind arith
  by Equal e h = true_false _ late h
  by Greater e h = absurd (cc)

-- a task is found behind those of lower ids
pub found_later : (q : EvalId) (y : Task) (ts : List Task) (t : Task) → T (is_below eval_cmp task_id y.id ts) → task_of q ts ≡ Some t → task_of q (y ∷ ts) ≡ Some t
found_later q y ts t below found = by (is_eq (eval_cmp q y.id)) refl where
  by : (b : Bool) → is_eq (eval_cmp q y.id) ≡ b → cond b (Some y) (task_of q ts) ≡ Some t
  by true e = none_some (task_of q ts) t (ap (λ k. task_of k ts) (same_id q y.id (is_equal _ e)) ∙ none_below eval_cmp task_id eval_cmp_total y.id ts below) found
  by false e = found

below_found : (k q : EvalId) (ts : List Task) (t : Task) → T (is_below eval_cmp task_id k ts) → task_of q ts ≡ Some t → eval_cmp k t.id ≡ Less
below_found k q [] t below found = absurd (cc)
below_found k q (y ∷ ts) t below found = by (is_eq (eval_cmp q y.id)) found (below_found k q ts t (second _ _ below)) where
  by : (b : Bool) → cond b (Some y) (task_of q ts) ≡ Some t → (task_of q ts ≡ Some t → eval_cmp k t.id ≡ Less) → eval_cmp k t.id ≡ Less
  by true e rest = subst (λ (x : Task). eval_cmp k x.id ≡ Less) (some_same _ _ e) (less _ (first _ _ below))
  by false e rest = rest e

module _ (passes : Task → Bool) (t : Task) where
  abbrev None_before : List Task → Type 0
  None_before ts = AllByRecursion (λ y. passes y ≡ true → NoLater t y) ts

  -- of those that pass
  kept : (ts : List Task) → None_before ts → AllByRecursion (λ y. nat_lt (priority t) (priority y) ≡ false) (filter passes ts)
  kept [] all = tt
  kept (y ∷ ts) all = by (passes y) refl (kept ts all.1) where
    by : (b : Bool) → passes y ≡ b → AllByRecursion (λ y. nat_lt (priority t) (priority y) ≡ false) (filter passes ts) → AllByRecursion (λ y. nat_lt (priority t) (priority y) ≡ false) (cond b (y ∷ filter passes ts) (filter passes ts))
    by true e rest = (no_later_priority (priority t) (priority y) (eval_cmp t.id y.id) (all.0 e), rest)
    by false e rest = rest

  pub first_is : (ts : List Task) → T (is_rising eval_cmp task_id ts) → task_of t.id ts ≡ Some t → passes t ≡ true → None_before ts → first_task (filter passes ts) ≡ Some t
  first_is [] rising found is all = absurd (cc)
  first_is (y ∷ ts) rising found is all = by (is_eq (eval_cmp t.id y.id)) refl found (λ later. first_is ts (second _ _ rising) later is all.1) where
    here : y ≡ t → first_task (filter passes (y ∷ ts)) ≡ Some t
    here e =
        ap (λ b. first_task (cond b (y ∷ filter passes ts) (filter passes ts))) (ap passes e ∙ is)
        ∙ ap (λ (x : Task). first_task (x ∷ filter passes ts)) e ∙ head_first t (filter passes ts) (kept ts all.1)

    past : (b : Bool) → passes y ≡ b → task_of t.id ts ≡ Some t → first_task (filter passes ts) ≡ Some t → first_task (cond b (y ∷ filter passes ts) (filter passes ts)) ≡ Some t
    past true e later rest =
        let behind : eval_cmp y.id t.id ≡ Less = below_found y.id t.id ts t (first _ _ rising) later in
        head_passed t y (filter passes ts) rest (later_priority (priority t) (priority y) (eval_cmp t.id y.id) (ap is_gt (eval_cmp_total.antisymm t.id y.id ∙ ap ordering_reverse behind)) (all.0 e))
    past false e later rest = rest

    by : (b : Bool) → is_eq (eval_cmp t.id y.id) ≡ b → cond b (Some y) (task_of t.id ts) ≡ Some t → (task_of t.id ts ≡ Some t → first_task (filter passes ts) ≡ Some t) → first_task (filter passes (y ∷ ts)) ≡ Some t
    by true e f rest = here (some_same _ _ f)
    by false e f rest = past (passes y) refl f (rest f)

-- none where none passes
pub none_passes : (passes : Task → Bool) (ts : List Task) → AllByRecursion (λ y. passes y ≡ true → ⊥) ts → first_task (filter passes ts) ≡ None
none_passes passes ts all = ap first_task (empty ts all) where
  empty : (ts : List Task) → AllByRecursion (λ y. passes y ≡ true → ⊥) ts → filter passes ts ≡ []
  empty [] all = refl
  empty (y ∷ ts) all = by (passes y) refl (empty ts all.1) where
    by : (b : Bool) → passes y ≡ b → filter passes ts ≡ [] → cond b (y ∷ filter passes ts) (filter passes ts) ≡ []
    by true e rest = absurd (all.0 e)
    by false e rest = rest

-- ---- what is first passes

module _ (P : Task → Type 0) (passes : Task → Bool) where
  kept_all : (ts : List Task) → AllByRecursion P ts → AllByRecursion (λ t. P t × (passes t ≡ true)) (filter passes ts)
  kept_all [] all = tt
  kept_all (t ∷ ts) all = by (passes t) refl (kept_all ts all.1) where
    by : (b : Bool) → passes t ≡ b → AllByRecursion (λ t. P t × (passes t ≡ true)) (filter passes ts) → AllByRecursion (λ t. P t × (passes t ≡ true)) (cond b (t ∷ filter passes ts) (filter passes ts))
    by true e rest = ((all.0, e), rest)
    by false e rest = rest

  pub first_passes : (ts : List Task) (t : Task) → AllByRecursion P ts → first_task (filter passes ts) ≡ Some t → P t × (passes t ≡ true)
  first_passes ts t all e = by (pick priority (filter passes ts)) (picked_all (λ t. P t × (passes t ≡ true)) (filter passes ts) (kept_all ts all)) e where
    by : (o : Option (Picked Task)) → ((k : Picked Task) → o ≡ Some k → P k.one × (passes k.one ≡ true)) → picked_one priority o ≡ Some t → P t × (passes t ≡ true)
    by None all e = absurd (cc)
    by (Some k) all e = subst (λ (x : Task). P x × (passes x ≡ true)) (some_same _ _ e) (all k refl)
