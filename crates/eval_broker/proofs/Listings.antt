-- What a list has of the tasks, where one of them goes or comes, and that it is no longer than they.
use Rattle.std.proofs.Common.{◌≡◌, ◌+◌, ◌≤◌, Bool, true, false, cond, not, ◌&&◌, T, List, [], ◌∷◌, length, Option, Some, None, is_some, refl, sym, ap, subst, ◌∙◌, arith}
use Rattle.std.specs.Prelude.{◌||◌}
use Rattle.std.specs.declared.cmp.Ordering.{Ordering}
use Rattle.std.specs.declared.cmp.Ordering.TheVariants.{Equal}
use Rattle.std.specs.Ordering.{is_eq}
use Rattle.std.specs.Cmp.{IsTotalOrder, tied_itself, tied_back}
use Rattle.rows.specs.declared.evaluation.EvalId.{EvalId}
use Rattle.rows.specs.Keys.{eval_cmp}
use Rattle.rows.proofs.KeyLaws.{eval_cmp_total}
use Rattle.rows.specs.Rising.{is_rising}
use Rattle.fsm_tables.specs.Rows.{has_row, put}
use Rattle.fsm_tables.proofs.RowLaws.{first, second, rising_put, row_of-put}
use Rattle.fsm_tables.specs.ReservedTables.{without}
use Rattle.fsm_tables.proofs.ReservedTables.{rising_without, row_of-without, length-without, found_tied}
use Rattle.group_model.specs.Brokers.{Task, task_id, task_of}
use Rattle.eval_broker.specs.Inner.Lists.{holds_key, is_listed, IsListing}
use Rattle.eval_broker.proofs.Orders.{same_id, is_equal, no, true_false, and_right, has_put, has_without, has_first, has_later, has_tied, has_below}

-- a task is found under its own id
pub own_id : (id : EvalId) (ts : List Task) (t : Task) → task_of id ts ≡ Some t → id ≡ t.id
own_id id ts t e = same_id id t.id (found_tied eval_cmp task_id eval_cmp_total id ts t e)

pub found_own : (id : EvalId) (ts : List Task) (t : Task) → task_of id ts ≡ Some t → task_of t.id ts ≡ Some t
found_own id ts t e = ap (λ k. task_of k ts) (sym (own_id id ts t e)) ∙ e

module _ {X : Type 0} (R : X → X → Ordering) (o : IsTotalOrder R) (id_of : X → EvalId) (make : Task → X) (passes : Task → Bool) where
  module _ (ties : (a b : X) → R a b ≡ Equal → id_of a ≡ id_of b) (made : (t : Task) → id_of (make t) ≡ t.id) where
    -- what is made of a task ties with what has its id alone
    other : (q : X) (t : Task) (id : EvalId) → id ≡ t.id → is_eq (eval_cmp (id_of q) id) ≡ false → is_eq (R q (make t)) ≡ false
    other q t id e f = no _ (λ tie.
        let here : id_of q ≡ t.id = ties q (make t) (is_equal _ tie) ∙ made t in
        true_false _ (ap (λ r. is_eq r) (ap (λ k. eval_cmp k id) (here ∙ sym e) ∙ tied_itself eval_cmp_total id)) f)

    gone : (p e : Bool) → (not e && (p && e)) ≡ false
    gone true true = refl
    gone true false = refl
    gone false true = refl
    gone false false = refl

    pub listing_without : (id : EvalId) (ts : List Task) (old : Task) (xs : List X) → task_of id ts ≡ Some old
        → IsListing R id_of make passes ts xs → IsListing R id_of make passes (without eval_cmp task_id id ts) (without R (λ x. x) (make old) xs)
    listing_without id ts old xs found l = record {
      rising = rising_without R (λ x. x) o (make old) xs l.rising;
      exact = λ q.
          has_without R o q (make old) xs
          ∙ ap (λ b. not (is_eq (R q (make old))) && b) (l.exact q)
          ∙ by q (is_eq (eval_cmp (id_of q) id)) refl
          ∙ sym (ap (is_listed R make passes q) (row_of-without eval_cmp task_id eval_cmp_total (id_of q) id ts));
    } where
      by : (q : X) (b : Bool) → is_eq (eval_cmp (id_of q) id) ≡ b →
          (not (is_eq (R q (make old))) && is_listed R make passes q (task_of (id_of q) ts)) ≡ is_listed R make passes q (cond b None (task_of (id_of q) ts))
      by q true e =
          let here : task_of (id_of q) ts ≡ Some old = ap (λ k. task_of k ts) (same_id (id_of q) id (is_equal _ e)) ∙ found in
          ap (λ m. not (is_eq (R q (make old))) && is_listed R make passes q m) here ∙ gone (passes old) (is_eq (R q (make old)))
      by q false e = ap (λ b. not b && is_listed R make passes q (task_of (id_of q) ts)) (other q old id (own_id id ts old found) e)

    either : (p e : Bool) → p ≡ true → (e || false) ≡ (p && e)
    either true true h = refl
    either true false h = refl
    either false e h = absurd (cc)

    pub listing_put : (new : Task) (ts : List Task) (xs : List X) → task_of new.id ts ≡ None → passes new ≡ true
        → IsListing R id_of make passes ts xs → IsListing R id_of make passes (put eval_cmp task_id new ts) (put R (λ x. x) (make new) xs)
    listing_put new ts xs none is l = record {
      rising = rising_put R (λ x. x) o (make new) xs l.rising;
      exact = λ q.
          has_put R o q (make new) xs
          ∙ ap (λ b. is_eq (R q (make new)) || b) (l.exact q)
          ∙ by q (is_eq (eval_cmp (id_of q) new.id)) refl
          ∙ sym (ap (is_listed R make passes q) (row_of-put eval_cmp task_id eval_cmp_total (id_of q) new ts));
    } where
      by : (q : X) (b : Bool) → is_eq (eval_cmp (id_of q) new.id) ≡ b →
          (is_eq (R q (make new)) || is_listed R make passes q (task_of (id_of q) ts)) ≡ is_listed R make passes q (cond b (Some new) (task_of (id_of q) ts))
      by q true e =
          let here : task_of (id_of q) ts ≡ None = ap (λ k. task_of k ts) (same_id (id_of q) new.id (is_equal _ e)) ∙ none in
          ap (λ m. is_eq (R q (make new)) || is_listed R make passes q m) here ∙ either (passes new) (is_eq (R q (make new))) is
      by q false e = ap (λ b. b || is_listed R make passes q (task_of (id_of q) ts)) (other q new new.id refl e)

    -- one that does not pass is not listed
    pub listing_past : (new : Task) (ts : List Task) (xs : List X) → task_of new.id ts ≡ None → passes new ≡ false
        → IsListing R id_of make passes ts xs → IsListing R id_of make passes (put eval_cmp task_id new ts) xs
    listing_past new ts xs none not_this l = record {
      rising = l.rising;
      exact = λ q.
          l.exact q
          ∙ by q (is_eq (eval_cmp (id_of q) new.id)) refl
          ∙ sym (ap (is_listed R make passes q) (row_of-put eval_cmp task_id eval_cmp_total (id_of q) new ts));
    } where
      by : (q : X) (b : Bool) → is_eq (eval_cmp (id_of q) new.id) ≡ b → is_listed R make passes q (task_of (id_of q) ts) ≡ is_listed R make passes q (cond b (Some new) (task_of (id_of q) ts))
      by q true e =
          ap (λ k. is_listed R make passes q (task_of k ts)) (same_id (id_of q) new.id (is_equal _ e))
          ∙ ap (is_listed R make passes q) none ∙ ap (λ b. b && is_eq (R q (make new))) (sym not_this)
      by q false e = refl

  -- ---- no more than the tasks

  abbrev AllListed : List X → List Task → Type 0
  AllListed xs ts = (q : X) → holds_key R q xs ≡ true → is_listed R make passes q (task_of (id_of q) ts) ≡ true

  -- the others are of other tasks
  rest_listed : (x : X) (xs : List X) (ts : List Task) → T (is_rising R (λ y. y) (x ∷ xs)) → AllListed (x ∷ xs) ts → AllListed xs (without eval_cmp task_id (id_of x) ts)
  rest_listed x xs ts rising all q h =
      ap (is_listed R make passes q) (row_of-without eval_cmp task_id eval_cmp_total (id_of q) (id_of x) ts) ∙ by (is_eq (eval_cmp (id_of q) (id_of x))) refl
    where
      apart : (m : Option Task) → is_listed R make passes q m ≡ true → is_listed R make passes x m ≡ true → R q x ≡ Equal
      apart None p r = absurd (cc)
      apart (Some t) p r =
          o.congr q (make t) x (is_equal _ (and_right (passes t) _ p)) ∙ tied_back o x (make t) (is_equal _ (and_right (passes t) _ r))

      by : (b : Bool) → is_eq (eval_cmp (id_of q) (id_of x)) ≡ b → is_listed R make passes q (cond b None (task_of (id_of q) ts)) ≡ true
      by true e =
          let one = same_id (id_of q) (id_of x) (is_equal _ e) in
          let mine = all q (has_later R o q x xs h) in
          let yours = ap (λ k. is_listed R make passes x (task_of k ts)) one ∙ all x (has_first R o x xs) in
          let tie = apart (task_of (id_of q) ts) mine yours in
          true_false _ (sym (has_tied R o q x xs tie) ∙ h) (has_below R o x xs (first _ _ rising))
      by false e = all q (has_later R o q x xs h)

  pub no_longer : (xs : List X) (ts : List Task) → T (is_rising R (λ y. y) xs) → AllListed xs ts → length xs ≤ length ts
  no_longer [] ts rising all = omega arith
  no_longer (x ∷ xs) ts rising all =
      let rest : length xs ≤ length (without eval_cmp task_id (id_of x) ts) = no_longer xs (without eval_cmp task_id (id_of x) ts) (second _ _ rising) (rest_listed x xs ts rising all) in
      let size = length-without eval_cmp task_id eval_cmp_total (id_of x) ts in
      let there : has_row eval_cmp task_id (id_of x) ts ≡ true = is_there (task_of (id_of x) ts) (all x (has_first R o x xs)) in
      let less : length (without eval_cmp task_id (id_of x) ts) + 1 ≤ length ts = subst (λ b. length (without eval_cmp task_id (id_of x) ts) + cond b 1 0 ≤ length ts) there size in
      omega (arith, rest, less)
    where
      is_there : (m : Option Task) → is_listed R make passes x m ≡ true → is_some m ≡ true
      is_there None h = h
      is_there (Some t) h = refl
