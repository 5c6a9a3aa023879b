-- The tokens under which tasks are outstanding, where one task changes and where the tasks follow a
-- state.
use Rattle.std.proofs.Common.{◌≡◌, ℕ, zero, suc, ◌⊎◌, inl, inr, Bool, true, false, cond, ◌&&◌, nat_eq, nat_lt, Option, Some, None, List, [], ◌∷◌, map, filter, refl, sym, ap, ◌∙◌, arith, slice_get}
use Rattle.std.proofs.lemmas.Bool.{and_parts, eqb-true}
use Rattle.std.proofs.lemmas.Option.{same_Some}
use Rattle.std.specs.Ordering.{nat_cmp, is_eq}
use Rattle.rows.specs.declared.evaluation.EvalId.{EvalId}
use Rattle.rows.specs.declared.evaluation.Evaluation.{Evaluation}
use Rattle.rows.specs.declared.token.Token.{Token}
use Rattle.rows.specs.Keys.{eval_cmp}
use Rattle.fsm_tables.proofs.Bounds.{eq_then}
use Rattle.fsm_model.specs.Words.{same_eval}
use Rattle.group_model.specs.Order.{Picked, or_head, pick, picked_one, first_by}
use Rattle.group_model.specs.Brokers.{Mark, Free, Out, Acked, Task, task_of, with_task, carry, is_free, may_be_given, job_is_free, MOST, next}
use Rattle.group_safety.specs.Deliveries.{token_of_mark, token_of_task, token_among}

numbers_tie : (n m : ℕ) → is_eq (nat_cmp n m) ≡ nat_eq n m
numbers_tie n m = grind arith

pub ids_tie : (a b : EvalId) → is_eq (eval_cmp a b) ≡ true → a ≡ b
ids_tie a b h =
    let p = and_parts (is_eq (nat_cmp a.index b.index)) (is_eq (nat_cmp a.slot b.slot)) (sym (eq_then (nat_cmp a.index b.index) (nat_cmp a.slot b.slot)) ∙ h) in
    (λ j. record { index = eqb-true a.index b.index (sym (numbers_tie a.index b.index) ∙ p.0) j; slot = eqb-true a.slot b.slot (sym (numbers_tie a.slot b.slot) ∙ p.1) j })

-- ---- one task changes

module _ (id : EvalId) (f : Task → Task) (same : (t : Task) → (f t).id ≡ t.id) (eval : EvalId) (token : Token) where
  -- it is the one, and is outstanding so
  abbrev pub Changed : Type 0
  Changed = (t : Task) × (eval ≡ id) × (token_of_mark (f t).mark ≡ Some token)

  other_task : (b : Bool) (t : Task) → (cond b (f t) t).id ≡ t.id
  other_task true t = same t
  other_task false t = refl

  same_ids : (a b : EvalId) → same_eval a b ≡ true → a ≡ b
  same_ids a b h = let p = and_parts (nat_eq a.index b.index) (nat_eq a.slot b.slot) h in
      (λ j. record { index = eqb-true a.index b.index p.0 j; slot = eqb-true a.slot b.slot p.1 j })

  head_token : (b : Bool) (t : Task) → same_eval t.id id ≡ b → is_eq (eval_cmp eval t.id) ≡ true → token_of_mark (cond b (f t) t).mark ≡ Some token → Changed ⊎ (token_of_mark t.mark ≡ Some token)
  head_token true t one found h = inl (t, ids_tie eval t.id found ∙ same_ids t.id id one, h)
  head_token false t one found h = inr h

  -- what is outstanding now was so, or is the task that changed
  pub changed_token : (tasks : List Task) → token_among eval (with_task id f tasks) ≡ Some token → Changed ⊎ (token_among eval tasks ≡ Some token)
  changed_token [] h = absurd (cc)
  changed_token (t ∷ tasks) h =
      let key : is_eq (eval_cmp eval (cond (same_eval t.id id) (f t) t).id) ≡ is_eq (eval_cmp eval t.id) = ap (λ k. is_eq (eval_cmp eval k)) (other_task (same_eval t.id id) t) in
      by (λ q. changed_token tasks q) (is_eq (eval_cmp eval t.id)) refl (ap (λ b. token_of_task (cond b (Some (cond (same_eval t.id id) (f t) t)) (task_of eval (with_task id f tasks)))) (sym key) ∙ h) where
        by : (token_among eval (with_task id f tasks) ≡ Some token → Changed ⊎ (token_among eval tasks ≡ Some token)) → (b : Bool) → is_eq (eval_cmp eval t.id) ≡ b → token_of_task (cond b (Some (cond (same_eval t.id id) (f t) t)) (task_of eval (with_task id f tasks))) ≡ Some token →
            Changed ⊎ (token_of_task (cond b (Some t) (task_of eval tasks)) ≡ Some token)
        by rest true is q = head_token (same_eval t.id id) t refl is q
        by rest false is q = rest q

-- ---- tasks follow a state

module _ (old : List Task) (eval : EvalId) (token : Token) where
  carry_id : (e : Evaluation) (o : Option Task) → (carry e o).id ≡ e.id
  carry_id e None = refl
  carry_id e (Some t) = refl

  carried : (e : Evaluation) (o : Option Task) → token_of_mark (carry e o).mark ≡ Some token → token_of_task o ≡ Some token
  carried e None h = absurd (cc)
  carried e (Some t) h = h

  -- what is outstanding was so
  pub followed_token : (es : List Evaluation) → token_among eval (map (λ e. carry e (task_of e.id old)) es) ≡ Some token → token_among eval old ≡ Some token
  followed_token [] h = absurd (cc)
  followed_token (e ∷ es) h =
      let key : is_eq (eval_cmp eval (carry e (task_of e.id old)).id) ≡ is_eq (eval_cmp eval e.id) = ap (λ k. is_eq (eval_cmp eval k)) (carry_id e (task_of e.id old)) in
      by (λ q. followed_token es q) (is_eq (eval_cmp eval e.id)) refl (ap (λ b. token_of_task (cond b (Some (carry e (task_of e.id old))) (task_of eval (map (λ x. carry x (task_of x.id old)) es)))) (sym key) ∙ h) where
        by : (token_among eval (map (λ x. carry x (task_of x.id old)) es) ≡ Some token → token_among eval old ≡ Some token) → (b : Bool) → is_eq (eval_cmp eval e.id) ≡ b → token_of_task (cond b (Some (carry e (task_of e.id old))) (task_of eval (map (λ x. carry x (task_of x.id old)) es))) ≡ Some token → token_among eval old ≡ Some token
        by rest true is q = ap (λ k. token_among k old) (ids_tie eval e.id is) ∙ carried e (task_of e.id old) q
        by rest false is q = rest q

-- ---- the task that goes next

module _ {X : Type 0} where
  -- what is picked stands in the list
  picked_in : (priority : X → ℕ) (xs : List X) (x : X) → first_by priority xs ≡ Some x → (j : ℕ) × (slice_get xs j ≡ Some x)
  picked_in priority [] x h = absurd (cc)
  picked_in priority (y ∷ ys) x h = by (λ o is. picked_in priority ys o is) (pick priority ys) refl (same_Some _ x h) where
    by_less : ((z : X) → first_by priority ys ≡ Some z → (j : ℕ) × (slice_get ys j ≡ Some z)) → (p : Picked X) (b : Bool) → pick priority ys ≡ Some p → (cond {A = Picked X} b (record { one = p.one; others = y ∷ p.others }) (record { one = y; others = ys })).one ≡ x → (j : ℕ) × (slice_get (y ∷ ys) j ≡ Some x)
    by_less rest p true is q = let r = rest p.one (ap (picked_one priority) is) in (suc r.0, r.1 ∙ ap Some q)
    by_less rest p false is q = (0, ap Some q)

    by : ((z : X) → first_by priority ys ≡ Some z → (j : ℕ) × (slice_get ys j ≡ Some z)) → (o : Option (Picked X)) → pick priority ys ≡ o → (or_head priority y ys o).one ≡ x → (j : ℕ) × (slice_get (y ∷ ys) j ≡ Some x)
    by rest None is q = (0, ap Some q)
    by rest (Some p) is q = by_less rest p (nat_lt (priority y) (priority p.one)) is q

  -- what passes stands in the list, and passes
  pub passes_in : (test : X → Bool) (xs : List X) (j : ℕ) (x : X) → slice_get (filter test xs) j ≡ Some x → (k : ℕ) × (slice_get xs k ≡ Some x) × (test x ≡ true)
  passes_in test [] j x h = absurd (cc)
  passes_in test (y ∷ ys) j x h = by (λ i q. passes_in test ys i x q) (test y) refl j h where
    by : ((i : ℕ) → slice_get (filter test ys) i ≡ Some x → (k : ℕ) × (slice_get ys k ≡ Some x) × (test x ≡ true)) → (b : Bool) → test y ≡ b → (j : ℕ) → slice_get (cond b (y ∷ filter test ys) (filter test ys)) j ≡ Some x → (k : ℕ) × (slice_get (y ∷ ys) k ≡ Some x) × (test x ≡ true)
    by rest true is zero q = (0, q, ap test (sym (same_Some y x q)) ∙ is)
    by rest true is (suc i) q = let r = rest i q in (suc r.0, r.1, r.2)
    by rest false is i q = let r = rest i q in (suc r.0, r.1, r.2)

free_mark : (mark : Mark) → is_free mark ≡ true → mark ≡ Free
free_mark Free h = refl
free_mark (Out token wait) h = absurd (cc)
free_mark Acked h = absurd (cc)

-- it is one of the tasks, and nobody has it
pub next_in : (tasks : List Task) (t : Task) → next tasks ≡ Some t → (j : ℕ) × (slice_get tasks j ≡ Some t) × (t.mark ≡ Free)
next_in tasks t h =
    let p = picked_in (λ (x : Task). x.priority) (filter (may_be_given tasks) tasks) t h in
    let q = passes_in (may_be_given tasks) tasks p.0 t p.1 in
    (q.0, q.1, free_mark t.mark (and_parts (is_free t.mark) (nat_lt t.deliveries MOST) (and_parts (is_free t.mark && nat_lt t.deliveries MOST) (job_is_free t.job tasks) q.2).0).0)
