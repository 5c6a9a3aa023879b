-- Tasks put and taken out, and one of them changed in rank.
use Rattle.std.proofs.Common.{◌≡◌, ℕ, ◌+◌, ◌≤◌, Bool, true, false, cond, ◌&&◌, T, List, [], ◌∷◌, length, Option, Some, None, is_some, refl, sym, ap, subst, ◌∙◌, arith}
use Rattle.std.specs.Prelude.{nat_eq, nat_lt, ◌||◌, suc}
use Rattle.std.specs.declared.cmp.Ordering.{Ordering}
use Rattle.std.specs.declared.cmp.Ordering.TheVariants.{Less, Equal, Greater}
use Rattle.std.specs.Ordering.{nat_cmp, is_eq, ordering_then}
use Rattle.rows.specs.declared.evaluation.EvalId.{EvalId}
use Rattle.rows.specs.Keys.{eval_cmp}
use Rattle.rows.proofs.KeyLaws.{eval_cmp_total}
use Rattle.rows.specs.Rising.{is_rising}
use Rattle.fsm_tables.specs.Rows.{by_order, has_row, put}
use Rattle.fsm_tables.proofs.RowLaws.{first, second, none_below, below_less, below_tied, length-put, some_same}
use Rattle.fsm_tables.proofs.ReservedTables.{found_tied}
use Rattle.fsm_model.specs.Words.{same_eval}
use Rattle.raft_model.specs.Logs.{MAX}
use Rattle.group_model.specs.Brokers.{Broker, Task, Gives, UsedUp, task_id, task_of, with_task, goes_out, next_token, next, delivery_of, given, gives, deliver}
use Rattle.eval_broker.specs.declared.lists.Lists.{Lists}
use Rattle.eval_broker.specs.Inner.Lists.{HaveCapacity, KeepCapacity}
use Rattle.eval_broker.proofs.Orders.{none_some}

-- ---- room

pub capacity_kept : (n m : ℕ) (old mid new : Lists) → m ≤ n → HaveCapacity n old → KeepCapacity old mid → KeepCapacity mid new → HaveCapacity m new
capacity_kept n m old mid new le capacity one two = record {
  ranks = omega (arith, le, capacity.ranks, one.ranks, two.ranks);
  heads = omega (arith, le, capacity.heads, one.heads, two.heads);
  failed = omega (arith, le, capacity.failed, one.failed, two.failed);
}

pub no_loss : (l : Lists) → KeepCapacity l l
no_loss l = record { ranks = omega arith; heads = omega arith; failed = omega arith }

-- a task that is there leaves as many
pub as_many : (t : Task) (ts : List Task) (old : Task) → T (is_rising eval_cmp task_id ts) → task_of t.id ts ≡ Some old → length (put eval_cmp task_id t ts) ≡ length ts
as_many t ts old rising found =
    length-put eval_cmp task_id eval_cmp_total t ts rising ∙ ap (λ (m : Option Task). cond (is_some m) (length ts) (length ts + 1)) found

-- and one put makes at most one more
pub one_more : (t : Task) (ts : List Task) → T (is_rising eval_cmp task_id ts) → length (put eval_cmp task_id t ts) ≤ length ts + 1
one_more t ts rising = by (has_row eval_cmp task_id t.id ts) (length-put eval_cmp task_id eval_cmp_total t ts rising) where
  by : (b : Bool) → length (put eval_cmp task_id t ts) ≡ cond b (length ts) (length ts + 1) → length (put eval_cmp task_id t ts) ≤ length ts + 1
  by true e = omega (arith, e)
  by false e = omega (arith, e)

-- ---- in rank

same_ids : (a b : EvalId) → same_eval a b ≡ is_eq (eval_cmp b a)
same_ids a b = both (nat_eq a.index b.index) (nat_eq a.slot b.slot) (equal_index a.index b.index) (equal_index a.slot b.slot) where
  equal_index : (x y : ℕ) → nat_eq x y ≡ is_eq (nat_cmp y x)
  equal_index x y = grind arith

  both : (p q : Bool) → p ≡ is_eq (nat_cmp b.index a.index) → q ≡ is_eq (nat_cmp b.slot a.slot) → (p && q) ≡ is_eq (eval_cmp b a)
  both p q e f = (λ i. e i && f i) ∙ of (nat_cmp b.index a.index) where
    of : (r : Ordering) → (is_eq r && is_eq (nat_cmp b.slot a.slot)) ≡ is_eq (ordering_then r (nat_cmp b.slot a.slot))
    of Less = refl
    of Equal = refl
    of Greater = refl

module _ (f : Task → Task) (keeps : (t : Task) → task_id (f t) ≡ t.id) where
  -- where there is none of the id, none changes
  pub none_changed : (id : EvalId) (ts : List Task) → task_of id ts ≡ None → with_task id f ts ≡ ts
  none_changed id [] e = refl
  none_changed id (t ∷ ts) e = by (is_eq (eval_cmp id t.id)) (same_ids t.id id) e (none_changed id ts) where
    by : (b : Bool) → same_eval t.id id ≡ b → cond b (Some t) (task_of id ts) ≡ None → (task_of id ts ≡ None → with_task id f ts ≡ ts) → cond (same_eval t.id id) (f t) t ∷ with_task id f ts ≡ t ∷ ts
    by true s e rest = absurd (cc)
    by false s e rest = λ i. cond (s i) (f t) t ∷ rest e i

  -- and else the one is put anew
  pub one_changed : (id : EvalId) (ts : List Task) (t : Task) → T (is_rising eval_cmp task_id ts) → task_of id ts ≡ Some t → with_task id f ts ≡ put eval_cmp task_id (f t) ts
  one_changed id [] t rising found = absurd (cc)
  one_changed id (y ∷ ts) t rising found = by (eval_cmp id y.id) refl found (λ later. one_changed id ts t (second _ _ rising) later) where
    order : (r : Ordering) → eval_cmp id y.id ≡ r → eval_cmp id t.id ≡ Equal → eval_cmp (task_id (f t)) y.id ≡ r
    order r e tie = ap (λ k. eval_cmp k y.id) (keeps t) ∙ sym (eval_cmp_total.congr id t.id y.id tie) ∙ e

    here : eval_cmp id y.id ≡ Equal → y ≡ t → with_task id f (y ∷ ts) ≡ put eval_cmp task_id (f t) (y ∷ ts)
    here e is =
        let none : task_of id ts ≡ None = tied_none e in
        (λ i. cond ((same_ids y.id id ∙ ap is_eq e) i) (f (is i)) y ∷ none_changed id ts none i)
        ∙ sym (ap (λ r. by_order r (f t ∷ y ∷ ts) (f t ∷ ts) (y ∷ put eval_cmp task_id (f t) ts)) (order Equal e (subst (λ (x : Task). eval_cmp id x.id ≡ Equal) is e)))
      where
        tied_none : eval_cmp id y.id ≡ Equal → task_of id ts ≡ None
        tied_none e = none_below eval_cmp task_id eval_cmp_total id ts (below_tied eval_cmp task_id eval_cmp_total id y.id ts e (first _ _ rising))

    by : (r : Ordering) → eval_cmp id y.id ≡ r → cond (is_eq r) (Some y) (task_of id ts) ≡ Some t → (task_of id ts ≡ Some t → with_task id f ts ≡ put eval_cmp task_id (f t) ts) → with_task id f (y ∷ ts) ≡ put eval_cmp task_id (f t) (y ∷ ts)
    by Less e found rest =
        none_some (task_of id ts) t (none_below eval_cmp task_id eval_cmp_total id ts (below_less eval_cmp task_id eval_cmp_total id y.id ts e (first _ _ rising))) found
    by Equal e found rest = here e (some_same _ _ found)
    by Greater e found rest =
        (λ i. cond ((same_ids y.id id ∙ ap is_eq e) i) (f y) y ∷ rest found i)
        ∙ sym (ap (λ r. by_order r (f t ∷ y ∷ ts) (f t ∷ ts) (y ∷ put eval_cmp task_id (f t) ts)) (order Greater e (found_tied eval_cmp task_id eval_cmp_total id ts t found)))

-- ---- a task that is there, changed

module _ (ts : List Task) (t new : Task) (rising : T (is_rising eval_cmp task_id ts)) (found : task_of t.id ts ≡ Some t) (same : new.id ≡ t.id) where
  there : task_of new.id ts ≡ Some t
  there = ap (λ k. task_of k ts) same ∙ found

  pub has_space : (capacity : ℕ) → T (has_row eval_cmp task_id new.id ts || nat_lt (length ts) capacity)
  has_space capacity = subst (λ (m : Option Task). T (is_some m || nat_lt (length ts) capacity)) (sym there) tt

  pub has_room : (l : Lists) → HaveCapacity (length ts) l → HaveCapacity (length (put eval_cmp task_id new ts)) l
  has_room l capacity = subst (λ (n : ℕ). HaveCapacity n l) (sym (as_many new ts t rising there)) capacity

-- one that comes in
pub new_capacity : (new : Task) (ts : List Task) (l : Lists) → T (is_rising eval_cmp task_id ts) → HaveCapacity (length ts + 1) l → HaveCapacity (length (put eval_cmp task_id new ts)) l
new_capacity new ts l rising capacity = capacity_kept (length ts + 1) (length (put eval_cmp task_id new ts)) l l l (one_more new ts rising) capacity (no_loss l) (no_loss l)

module _ (ts us : List Task) (t new : Task) (rising : T (is_rising eval_cmp task_id ts)) (put_is : us ≡ put eval_cmp task_id new ts) where
  -- the broker with the task of an id changed
  pub in_place : (f : Task → Task) → ((x : Task) → task_id (f x) ≡ x.id) → (id : EvalId) (serial : ℕ) → task_of id ts ≡ Some t → new ≡ f t →
      let changed : Broker = record { tasks = us; serial = serial } in changed ≡ record { tasks = with_task id f ts; serial = serial }
  in_place f keeps id serial found is =
      λ i. record { tasks = (put_is ∙ ap (λ x. put eval_cmp task_id x ts) is ∙ sym (one_changed f keeps id ts t rising found)) i; serial = serial }

  -- and with the next one given out
  pub given_out : (term wait serial s last : ℕ) (id : EvalId) → task_of t.id ts ≡ Some t → next ts ≡ Some t → nat_lt serial MAX ≡ true → s ≡ serial + 1 → last ≡ serial + 1 → id ≡ t.id
      → new ≡ goes_out (record { term = term; serial = s }) wait t
      → deliver term wait (record { tasks = ts; serial = serial }) ≡ Gives (record { eval = id; token = record { term = term; serial = s }; wait = wait }) (record { tasks = us; serial = last })
  given_out term wait serial s last id found first left is_s is_last is_id is_fresh =
      let old : Broker = record { tasks = ts; serial = serial } in
      let one : suc serial ≡ s = omega (arith, is_s) in
      let two : suc serial ≡ last = omega (arith, is_last) in
      let token = next_token term old in
      let same : new ≡ goes_out token wait t = is_fresh ∙ (λ i. goes_out (record { term = term; serial = sym one i }) wait t) in
      ap (gives term wait old) first
      ∙ ap (λ b. cond b (Gives (delivery_of term wait t old) (given term wait t old)) UsedUp) left
      ∙ (λ i. Gives (record { eval = sym is_id i; token = record { term = term; serial = one i }; wait = wait })
      (record { tasks = sym (put_is ∙ ap (λ x. put eval_cmp task_id x ts) same ∙ sym (one_changed (goes_out token wait) (λ x. refl) t.id ts t rising found)) i; serial = two i }))
