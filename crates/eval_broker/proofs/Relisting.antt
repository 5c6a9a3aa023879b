-- The lists where one task goes or comes.
use Rattle.std.proofs.Common.{◌≡◌, ℕ, ◌+◌, ◌<◌, ◌≤◌, Bool, true, false, cond, T, List, length, Option, Some, None, is_some, refl, sym, ap, subst, ◌∙◌, arith}
use Rattle.std.specs.Prelude.{◌||◌, nat_lt}
use Rattle.std.specs.declared.cmp.Ordering.{Ordering}
use Rattle.std.specs.declared.cmp.Ordering.TheVariants.{Equal}
use Rattle.std.specs.Ordering.{bool_cmp, is_eq}
use Rattle.std.specs.Cmp.{tied_itself}
use Rattle.rows.specs.declared.evaluation.EvalId.{EvalId}
use Rattle.rows.specs.Keys.{name_cmp, eval_cmp}
use Rattle.rows.proofs.KeyLaws.{eval_cmp_total}
use Rattle.rows.specs.Rising.{is_rising}
use Rattle.fsm_tables.specs.Rows.{has_row, put}
use Rattle.fsm_tables.proofs.RowLaws.{rising_put, row_of-put, length-put}
use Rattle.fsm_tables.proofs.SetLaws.{same_rows}
use Rattle.fsm_tables.specs.ReservedTables.{Stock, without}
use Rattle.fsm_tables.specs.declared.urgency.Urgency.{Urgency}
use Rattle.fsm_tables.specs.Urgencies.{urgency_cmp}
use Rattle.fsm_tables.proofs.ReservedTables.{rising_without, row_of-without, length-without, without_none}
use Rattle.fsm_tables.proofs.Urgencies.{urgency_cmp_total}
use Rattle.group_model.specs.Brokers.{Task, task_id, task_of}
use Rattle.eval_broker.specs.declared.ranks.Rank.{Rank}
use Rattle.eval_broker.specs.declared.ranks.Head.{Head}
use Rattle.eval_broker.specs.declared.lists.Lists.{Lists}
use Rattle.eval_broker.specs.Answers.{urgency_of}
use Rattle.eval_broker.specs.Inner.Lists.{rank_cmp, rank_id, urgency_id, rank_of, is_failed, is_any, IsListing, AreHeads, AreHeadsBut, AreTaskLists}
use Rattle.eval_broker.proofs.Orders.{rank_total, then_second, same_urgency}
use Rattle.eval_broker.proofs.Listings.{listing_without, listing_put, listing_past, no_longer}
use Rattle.eval_broker.proofs.Heads.{moved_without}

-- ranks that tie have one id
pub rank_ties : (a b : Rank) → rank_cmp a b ≡ Equal → rank_id a ≡ rank_id b
rank_ties a b e = ap (λ (u : Urgency). u.id) (same_urgency a.urgency b.urgency (then_second (bool_cmp a.is_spent b.is_spent) _ (then_second (bool_cmp a.is_free b.is_free) _ (then_second (name_cmp a.job b.job) _ e))))

pub urgency_ties : (a b : Urgency) → urgency_cmp a b ≡ Equal → urgency_id a ≡ urgency_id b
urgency_ties a b e = ap (λ (u : Urgency). u.id) (same_urgency a b e)

-- it is not among the others
none_left : (id : EvalId) (ts : List Task) → task_of id (without eval_cmp task_id id ts) ≡ None
none_left id ts = row_of-without eval_cmp task_id eval_cmp_total id id ts ∙ ap (λ r. cond (is_eq r) None (task_of id ts)) (tied_itself eval_cmp_total id)

-- the others are no more
pub no_more : (id : EvalId) (ts : List Task) → length (without eval_cmp task_id id ts) ≤ length ts
no_more id ts =
    let size = length-without eval_cmp task_id eval_cmp_total id ts in
    by (has_row eval_cmp task_id id ts) size
  where
    by : (b : Bool) → length (without eval_cmp task_id id ts) + cond b 1 0 ≤ length ts → length (without eval_cmp task_id id ts) ≤ length ts
    by true h = omega (arith, h)
    by false h = omega (arith, h)

-- ---- a task goes

pub heads_out : (job : List ℕ) (t : Task) (p : Rank) (ps qs : List Rank) (hs : List Head) → job ≡ t.job → p ≡ rank_of t → qs ≡ without rank_cmp (λ x. x) p ps → AreHeadsBut job ps hs → AreHeadsBut job qs hs
heads_out job t p ps qs hs j is to but =
    subst (λ rs. AreHeadsBut job rs hs) (sym to)
    (subst (λ k. AreHeadsBut k (without rank_cmp (λ x. x) p ps) hs) (ap (λ (x : Rank). x.job) is ∙ sym j)
    (moved_without p ps hs (subst (λ k. AreHeadsBut k ps hs) (j ∙ sym (ap (λ (x : Rank). x.job) is)) but)))

pub ranks_out : (id : EvalId) (ts : List Task) (t : Task) (p : Rank) (ps qs : List Rank) → task_of id ts ≡ Some t → p ≡ rank_of t → qs ≡ without rank_cmp (λ x. x) p ps
    → IsListing rank_cmp rank_id rank_of is_any ts ps → IsListing rank_cmp rank_id rank_of is_any (without eval_cmp task_id id ts) qs
ranks_out id ts t p ps qs found is to l =
    subst (IsListing rank_cmp rank_id rank_of is_any (without eval_cmp task_id id ts)) (sym (to ∙ ap (λ x. without rank_cmp (λ y. y) x ps) is))
    (listing_without rank_cmp rank_total rank_id rank_of is_any rank_ties (λ t. refl) id ts t ps found l)

pub failed_out : (id : EvalId) (ts : List Task) (t : Task) (u : Urgency) (fs gs : List Urgency) → task_of id ts ≡ Some t → u ≡ urgency_of t → gs ≡ without urgency_cmp (λ x. x) u fs
    → IsListing urgency_cmp urgency_id urgency_of is_failed ts fs → IsListing urgency_cmp urgency_id urgency_of is_failed (without eval_cmp task_id id ts) gs
failed_out id ts t u fs gs found is to l =
    subst (IsListing urgency_cmp urgency_id urgency_of is_failed (without eval_cmp task_id id ts)) (sym (to ∙ ap (λ x. without urgency_cmp (λ y. y) x fs) is))
    (listing_without urgency_cmp urgency_cmp_total urgency_id urgency_of is_failed urgency_ties (λ t. refl) id ts t fs found l)

-- ---- a task comes

module _ (t : Task) (ts : List Task) (rising : T (is_rising eval_cmp task_id ts)) where
  -- beside those of other ids
  put_beside : put eval_cmp task_id t (without eval_cmp task_id t.id ts) ≡ put eval_cmp task_id t ts
  put_beside =
      same_rows eval_cmp task_id eval_cmp_total (put eval_cmp task_id t (without eval_cmp task_id t.id ts)) (put eval_cmp task_id t ts)
      (rising_put eval_cmp task_id eval_cmp_total t (without eval_cmp task_id t.id ts) (rising_without eval_cmp task_id eval_cmp_total t.id ts rising)) (rising_put eval_cmp task_id eval_cmp_total t ts rising)
      (λ q. row_of-put eval_cmp task_id eval_cmp_total q t (without eval_cmp task_id t.id ts)
      ∙ ap (cond (is_eq (eval_cmp q t.id)) (Some t)) (row_of-without eval_cmp task_id eval_cmp_total q t.id ts)
      ∙ by (is_eq (eval_cmp q t.id)) (task_of q ts)
      ∙ sym (row_of-put eval_cmp task_id eval_cmp_total q t ts))
    where
      by : (b : Bool) (m : Option Task) → cond b (Some t) (cond b None m) ≡ cond b (Some t) m
      by true m = refl
      by false m = refl

  pub ranks_in : (p : Rank) (ps qs : List Rank) → p ≡ rank_of t → qs ≡ put rank_cmp (λ x. x) p ps
      → IsListing rank_cmp rank_id rank_of is_any (without eval_cmp task_id t.id ts) ps → IsListing rank_cmp rank_id rank_of is_any (put eval_cmp task_id t ts) qs
  ranks_in p ps qs is to l =
      subst (λ us. IsListing rank_cmp rank_id rank_of is_any us qs) put_beside
      (subst (IsListing rank_cmp rank_id rank_of is_any (put eval_cmp task_id t (without eval_cmp task_id t.id ts))) (sym (to ∙ ap (λ x. put rank_cmp (λ y. y) x ps) is))
      (listing_put rank_cmp rank_total rank_id rank_of is_any rank_ties (λ t. refl) t (without eval_cmp task_id t.id ts) ps (none_left t.id ts) refl l))

  pub failed_in : (fs gs : List Urgency) → gs ≡ cond (is_failed t) (put urgency_cmp (λ x. x) (urgency_of t) fs) fs
      → IsListing urgency_cmp urgency_id urgency_of is_failed (without eval_cmp task_id t.id ts) fs → IsListing urgency_cmp urgency_id urgency_of is_failed (put eval_cmp task_id t ts) gs
  failed_in fs gs to l =
      subst (λ us. IsListing urgency_cmp urgency_id urgency_of is_failed us gs) put_beside
      (subst (IsListing urgency_cmp urgency_id urgency_of is_failed (put eval_cmp task_id t (without eval_cmp task_id t.id ts))) (sym to) (by (is_failed t) refl))
    where
      by : (b : Bool) → is_failed t ≡ b → IsListing urgency_cmp urgency_id urgency_of is_failed (put eval_cmp task_id t (without eval_cmp task_id t.id ts)) (cond b (put urgency_cmp (λ x. x) (urgency_of t) fs) fs)
      by true e = listing_put urgency_cmp urgency_cmp_total urgency_id urgency_of is_failed urgency_ties (λ t. refl) t (without eval_cmp task_id t.id ts) fs (none_left t.id ts) e l
      by false e = listing_past urgency_cmp urgency_cmp_total urgency_id urgency_of is_failed urgency_ties (λ t. refl) t (without eval_cmp task_id t.id ts) fs (none_left t.id ts) e l

  -- it makes one more than the others
  one_more : length (without eval_cmp task_id t.id ts) < length (put eval_cmp task_id t ts)
  one_more =
      let others = without eval_cmp task_id t.id ts in
      let size = length-put eval_cmp task_id eval_cmp_total t others (rising_without eval_cmp task_id eval_cmp_total t.id ts rising) in
      let more : length (put eval_cmp task_id t others) ≡ length others + 1 = size ∙ ap (λ (m : Option Task). cond (is_some m) (length others) (length others + 1)) (none_left t.id ts) in
      let same : length (put eval_cmp task_id t others) ≡ length (put eval_cmp task_id t ts) = ap length put_beside in
      omega (arith, more, same)

  -- there is room for one more
  spare : {X : Type 0} (R : X → X → Ordering) (x : X) (xs : List X) (capacity : ℕ) → length xs ≤ length (without eval_cmp task_id t.id ts) → length (put eval_cmp task_id t ts) ≤ capacity
      → T (has_row R (λ y. y) x xs || nat_lt (length xs) capacity)
  spare R x xs capacity few le = either (has_row R (λ y. y) x xs) (nat_lt (length xs) capacity) (below (length xs) capacity (omega (arith, few, le, one_more))) where
    either : (a b : Bool) → T b → T (a || b)
    either true b h = tt
    either false b h = h

    below : (n m : ℕ) → n < m → T (nat_lt n m)
    below n m lt = grind arith

  pub rank_spare : (p : Rank) (ps : List Rank) (capacity : ℕ) → IsListing rank_cmp rank_id rank_of is_any (without eval_cmp task_id t.id ts) ps → length (put eval_cmp task_id t ts) ≤ capacity
      → T (has_row rank_cmp (λ x. x) p ps || nat_lt (length ps) capacity)
  rank_spare p ps capacity l le =
      spare rank_cmp p ps capacity (no_longer rank_cmp rank_total rank_id rank_of is_any ps (without eval_cmp task_id t.id ts) l.rising (λ q h. sym (l.exact q) ∙ h)) le

  pub failed_spare : (u : Urgency) (fs : List Urgency) (capacity : ℕ) → IsListing urgency_cmp urgency_id urgency_of is_failed (without eval_cmp task_id t.id ts) fs → length (put eval_cmp task_id t ts) ≤ capacity
      → T (has_row urgency_cmp (λ x. x) u fs || nat_lt (length fs) capacity)
  failed_spare u fs capacity l le =
      spare urgency_cmp u fs capacity (no_longer urgency_cmp urgency_cmp_total urgency_id urgency_of is_failed fs (without eval_cmp task_id t.id ts) l.rising (λ q h. sym (l.exact q) ∙ h)) le

-- ---- the three lists

pub all_listed : (ts : List Task) (l : Lists) (ranks : Stock Rank) (failed : Stock Urgency) → l.ranks ≡ ranks → l.failed ≡ failed
    → IsListing rank_cmp rank_id rank_of is_any ts ranks.rows → AreHeads ranks.rows l.heads.rows → IsListing urgency_cmp urgency_id urgency_of is_failed ts failed.rows → AreTaskLists ts l
all_listed ts l ranks failed is also a b c = record {
  ranks = subst (λ (s : Stock Rank). IsListing rank_cmp rank_id rank_of is_any ts s.rows) (sym is) a;
  heads = subst (λ (s : Stock Rank). AreHeads s.rows l.heads.rows) (sym is) b;
  failed = subst (λ (s : Stock Urgency). IsListing urgency_cmp urgency_id urgency_of is_failed ts s.rows) (sym also) c;
}

-- where there is no task of the id, none goes
pub none_goes : (id : EvalId) (ts : List Task) (l : Lists) → task_of id ts ≡ None → AreTaskLists ts l → AreTaskLists (without eval_cmp task_id id ts) l
none_goes id ts l none listed = subst (λ us. AreTaskLists us l) (sym (without_none eval_cmp task_id eval_cmp_total id ts none)) listed
