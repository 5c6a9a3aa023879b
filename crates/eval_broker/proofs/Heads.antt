-- The heads of jobs: how they change where ranks of one job do, and of which tasks they are.
use Rattle.std.proofs.Common.{◌≡◌, ℕ, ◌≤◌, Bool, true, false, cond, not, ◌&&◌, T, List, [], ◌∷◌, length, Option, Some, None, is_some, refl, sym, ap, subst, ◌∙◌, arith}
use Rattle.std.specs.Prelude.{◌||◌, nat_lt}
use Rattle.std.specs.declared.cmp.Ordering.{Ordering}
use Rattle.std.specs.declared.cmp.Ordering.TheVariants.{Less, Equal, Greater}
use Rattle.std.specs.Ordering.{bool_cmp, is_eq, is_gt, ordering_then, ordering_reverse}
use Rattle.std.specs.Cmp.{tied_itself}
use Rattle.std.specs.Cmp.Lexicographic.{nat_list_cmp_total}
use Rattle.std.proofs.lemmas.Map.Lookups.{exact_bytes}
use Rattle.rows.specs.Keys.{name_cmp}
use Rattle.rows.specs.Rising.{is_rising}
use Rattle.fsm_tables.specs.Rows.{by_order, row_of, has_row, put}
use Rattle.fsm_tables.proofs.RowLaws.{second, less, rising_put}
use Rattle.fsm_tables.specs.ReservedTables.{without}
use Rattle.fsm_tables.specs.declared.urgency.Urgency.{Urgency}
use Rattle.fsm_tables.specs.Urgencies.{urgency_cmp}
use Rattle.fsm_tables.proofs.ReservedTables.{rising_without, found_tied, room_left}
use Rattle.group_model.specs.Brokers.{Task, task_of}
use Rattle.eval_broker.specs.declared.ranks.Rank.{Rank}
use Rattle.eval_broker.specs.declared.ranks.Head.{Head}
use Rattle.eval_broker.specs.Inner.Lists.{rank_cmp, head_cmp, rank_job, rank_id, head_id, rank_of, head_for, is_any, holds_key, is_listed, IsListing, head_at, first_head, head_of, is_head, is_behind, AreHeads, AreHeadsBut, HasHeadsUpTo}
use Rattle.eval_broker.proofs.Orders.{rank_total, head_total, then_first, then_second, same_urgency, is_equal, no, true_false, has_put, has_without, has_later, first_least}
use Rattle.eval_broker.proofs.Listings.{no_longer}

abbrev same_job : List ℕ → List ℕ → Bool
same_job a b = is_eq (name_cmp a b)

one_job : (a b : List ℕ) → same_job a b ≡ true → a ≡ b
one_job a b e = exact_bytes a b (is_equal _ e)

itself : (a : List ℕ) → same_job a a ≡ true
itself a = ap is_eq (tied_itself nat_list_cmp_total a)

turned : (a b : List ℕ) → same_job a b ≡ false → same_job b a ≡ false
turned a b e = no _ (λ t. true_false _ (ap (λ k. same_job a k) (one_job b a t) ∙ itself a) e)

-- ---- the head of a job

head_at_job : (p : Rank) (h : Head) → head_at p ≡ Some h → p.job ≡ h.job
head_at_job p h e = by (p.is_free && not p.is_spent) e where
  by : (b : Bool) → cond b (Some (record { urgency = p.urgency; job = p.job })) None ≡ Some h → p.job ≡ h.job
  by true e =
      let same : record { urgency = p.urgency; job = p.job } ≡ h = cc in
      ap (λ (t : Head). t.job) same
  by false e = absurd (cc)

first_job : (job : List ℕ) (ps : List Rank) (m : Option Rank) (h : Head) → row_of name_cmp rank_job job ps ≡ m → first_head m ≡ Some h → job ≡ h.job
first_job job ps None h is e = absurd (cc)
first_job job ps (Some p) h is e = exact_bytes job p.job (found_tied name_cmp rank_job nat_list_cmp_total job ps p is) ∙ head_at_job p h e

-- it is of the job
pub head_job : (job : List ℕ) (ps : List Rank) (h : Head) → head_of job ps ≡ Some h → job ≡ h.job
head_job job ps h e = first_job job ps (row_of name_cmp rank_job job ps) h refl e

-- ---- another job's ranks

module _ (job : List ℕ) (p : Rank) (apart : same_job job p.job ≡ false) where
  passed : (y : Rank) (r : Ordering) → rank_cmp p y ≡ r → is_eq r ≡ true → same_job job y.job ≡ false
  passed y r e t =
      ap (λ k. same_job job k) (sym (exact_bytes p.job y.job (then_first (name_cmp p.job y.job) _ (is_equal _ (ap is_eq e ∙ t))))) ∙ apart

  pub row_past_put : (ps : List Rank) → row_of name_cmp rank_job job (put rank_cmp (λ x. x) p ps) ≡ row_of name_cmp rank_job job ps
  row_past_put [] = ap (λ b. cond b (Some p) None) apart
  row_past_put (y ∷ ys) =
      elim (rank_cmp p y) as (λ r. rank_cmp p y ≡ r → row_of name_cmp rank_job job (by_order r (p ∷ y ∷ ys) (p ∷ ys) (y ∷ put rank_cmp (λ x. x) p ys)) ≡ row_of name_cmp rank_job job (y ∷ ys)) [
        | Less ↦ λ e. ap (λ b. cond b (Some p) (row_of name_cmp rank_job job (y ∷ ys))) apart
        | Equal ↦ λ e.
            ap (λ b. cond b (Some p) (row_of name_cmp rank_job job ys)) apart
            ∙ sym (ap (λ b. cond b (Some y) (row_of name_cmp rank_job job ys)) (passed y Equal e refl))
        | Greater ↦ λ e. ap (cond (same_job job y.job) (Some y)) (row_past_put ys)
      ] refl

  pub row_past_without : (ps : List Rank) → row_of name_cmp rank_job job (without rank_cmp (λ x. x) p ps) ≡ row_of name_cmp rank_job job ps
  row_past_without [] = refl
  row_past_without (y ∷ ys) =
      elim (rank_cmp p y) as (λ r. rank_cmp p y ≡ r → row_of name_cmp rank_job job (cond (not (is_eq r)) (y ∷ without rank_cmp (λ x. x) p ys) (without rank_cmp (λ x. x) p ys)) ≡ row_of name_cmp rank_job job (y ∷ ys)) [
        | Less ↦ λ e. ap (cond (same_job job y.job) (Some y)) (row_past_without ys)
        | Equal ↦ λ e. row_past_without ys ∙ sym (ap (λ b. cond b (Some y) (row_of name_cmp rank_job job ys)) (passed y Equal e refl))
        | Greater ↦ λ e. ap (cond (same_job job y.job) (Some y)) (row_past_without ys)
      ] refl

-- ---- one head goes, ranks of its job change, and the job's new head comes

abbrev pub less_head : Option Head → List Head → List Head
less_head None hs = hs
less_head (Some h) hs = without head_cmp (λ t. t) h hs

abbrev pub more_head : Option Head → List Head → List Head
more_head None hs = hs
more_head (Some h) hs = put head_cmp (λ t. t) h hs

-- a head of another job is not the head
not_head : (job : List ℕ) (ps : List Rank) (h t : Head) → head_of job ps ≡ Some h → same_job t.job job ≡ false → is_eq (head_cmp t h) ≡ false
not_head job ps h t e apart = no _ (λ tie.
    true_false _ (ap is_eq (then_second (urgency_cmp t.urgency h.urgency) (name_cmp t.job h.job) (is_equal _ tie))) (ap (λ k. same_job t.job k) (sym (head_job job ps h e)) ∙ apart))

pub head_dropped : (job : List ℕ) (ps : List Rank) (hs : List Head) (m : Option Head) → head_of job ps ≡ m → AreHeads ps hs → AreHeadsBut job ps (less_head m hs)
head_dropped job ps hs None e l = record {
  rising = l.rising;
  exact = λ t. l.exact t ∙ by t (same_job t.job job) refl;
} where
  by : (t : Head) (b : Bool) → same_job t.job job ≡ b → is_head t (head_of t.job ps) ≡ (not b && is_head t (head_of t.job ps))
  by t true s = ap (λ k. is_head t (head_of k ps)) (one_job t.job job s) ∙ ap (is_head t) e
  by t false s = refl
head_dropped job ps hs (Some h) e l = record {
  rising = rising_without head_cmp (λ t. t) head_total h hs l.rising;
  exact = λ t. has_without head_cmp head_total t h hs ∙ ap (λ b. not (is_eq (head_cmp t h)) && b) (l.exact t) ∙ by t (same_job t.job job) refl;
} where
  never : (b : Bool) → (not b && b) ≡ false
  never true = refl
  never false = refl

  by : (t : Head) (b : Bool) → same_job t.job job ≡ b → (not (is_eq (head_cmp t h)) && is_head t (head_of t.job ps)) ≡ (not b && is_head t (head_of t.job ps))
  by t true s = ap (λ m. not (is_eq (head_cmp t h)) && is_head t m) (ap (λ k. head_of k ps) (one_job t.job job s) ∙ e) ∙ never (is_eq (head_cmp t h))
  by t false s = ap (λ b. not b && is_head t (head_of t.job ps)) (not_head job ps h t e s)

pub head_added : (job : List ℕ) (ps : List Rank) (hs : List Head) (m : Option Head) → head_of job ps ≡ m → AreHeadsBut job ps hs → AreHeads ps (more_head m hs)
head_added job ps hs None e l = record {
  rising = l.rising;
  exact = λ t. l.exact t ∙ by t (same_job t.job job) refl;
} where
  by : (t : Head) (b : Bool) → same_job t.job job ≡ b → (not b && is_head t (head_of t.job ps)) ≡ is_head t (head_of t.job ps)
  by t true s = sym (ap (λ k. is_head t (head_of k ps)) (one_job t.job job s) ∙ ap (is_head t) e)
  by t false s = refl
head_added job ps hs (Some h) e l = record {
  rising = rising_put head_cmp (λ t. t) head_total h hs l.rising;
  exact = λ t. has_put head_cmp head_total t h hs ∙ ap (λ b. is_eq (head_cmp t h) || b) (l.exact t) ∙ by t (same_job t.job job) refl;
} where
  alone : (b : Bool) → (b || false) ≡ b
  alone true = refl
  alone false = refl

  by : (t : Head) (b : Bool) → same_job t.job job ≡ b → (is_eq (head_cmp t h) || (not b && is_head t (head_of t.job ps))) ≡ is_head t (head_of t.job ps)
  by t true s = alone (is_eq (head_cmp t h)) ∙ sym (ap (is_head t) (ap (λ k. head_of k ps) (one_job t.job job s) ∙ e))
  by t false s = ap (λ b. b || is_head t (head_of t.job ps)) (not_head job ps h t e s)

-- the heads of the other jobs stay
moved : (job : List ℕ) (ps qs : List Rank) (hs : List Head) → ((k : List ℕ) → same_job k job ≡ false → row_of name_cmp rank_job k qs ≡ row_of name_cmp rank_job k ps) → AreHeadsBut job ps hs → AreHeadsBut job qs hs
moved job ps qs hs same l = record {
  rising = l.rising;
  exact = λ t. l.exact t ∙ by t (same_job t.job job) refl;
} where
  by : (t : Head) (b : Bool) → same_job t.job job ≡ b → (not b && is_head t (head_of t.job ps)) ≡ (not b && is_head t (head_of t.job qs))
  by t true s = refl
  by t false s = ap (λ m. is_head t (first_head m)) (sym (same t.job s))

pub moved_put : (p : Rank) (ps : List Rank) (hs : List Head) → AreHeadsBut p.job ps hs → AreHeadsBut p.job (put rank_cmp (λ x. x) p ps) hs
moved_put p ps hs = moved p.job ps (put rank_cmp (λ x. x) p ps) hs (λ k s. row_past_put k p s ps)

pub moved_without : (p : Rank) (ps : List Rank) (hs : List Head) → AreHeadsBut p.job ps hs → AreHeadsBut p.job (without rank_cmp (λ x. x) p ps) hs
moved_without p ps hs = moved p.job ps (without rank_cmp (λ x. x) p ps) hs (λ k s. row_past_without k p s ps)

-- ---- of which tasks

-- what is found is there
pub found_there : (job : List ℕ) (ps : List Rank) (p : Rank) → row_of name_cmp rank_job job ps ≡ Some p → holds_key rank_cmp p ps ≡ true
found_there job [] p e = absurd (cc)
found_there job (y ∷ ys) p e = by (same_job job y.job) e (λ rest. has_later rank_cmp rank_total p y ys (found_there job ys p rest)) where
  by : (b : Bool) → cond b (Some y) (row_of name_cmp rank_job job ys) ≡ Some p → (row_of name_cmp rank_job job ys ≡ Some p → holds_key rank_cmp p (y ∷ ys) ≡ true) → holds_key rank_cmp p (y ∷ ys) ≡ true
  by true e rest =
      let same : y ≡ p = cc in
      ap (λ r. is_some (cond (is_eq r) (Some y) (row_of rank_cmp (λ x. x) p ys))) (ap (rank_cmp p) same ∙ tied_itself rank_total p)
  by false e rest = rest e

-- each head is the head of a task
pub head_listed : (ts : List Task) (ps : List Rank) → IsListing rank_cmp rank_id rank_of is_any ts ps → (q : Head) → is_head q (head_of q.job ps) ≡ true → is_listed head_cmp head_for is_any q (task_of (head_id q) ts) ≡ true
head_listed ts ps l q h = first (row_of name_cmp rank_job q.job ps) refl h where
  -- a task at a rank, by the rank's id
  listed : (p : Rank) (m : Option Task) → q.urgency ≡ p.urgency → q.job ≡ p.job → is_listed rank_cmp rank_of is_any p m ≡ true → is_listed head_cmp head_for is_any q m ≡ true
  listed p None u j e = e
  listed p (Some t) u j e =
      let rest = then_second (name_cmp p.job t.job) _ (is_equal _ e) in
      let urgency = then_second (bool_cmp p.is_spent (rank_of t).is_spent) _ (then_second (bool_cmp p.is_free (rank_of t).is_free) _ rest) in
      ap is_eq ((λ i. ordering_then (urgency_cmp (u i) (rank_of t).urgency) (name_cmp (j i) t.job))
      ∙ ap (λ r. ordering_then r (name_cmp p.job t.job)) urgency ∙ then_first (name_cmp p.job t.job) _ (is_equal _ e))

  at : (p : Rank) (b : Bool) → row_of name_cmp rank_job q.job ps ≡ Some p → is_head q (cond b (Some (record { urgency = p.urgency; job = p.job })) None) ≡ true → is_listed head_cmp head_for is_any q (task_of (head_id q) ts) ≡ true
  at p true is e =
      let u : q.urgency ≡ p.urgency = same_urgency q.urgency p.urgency (then_first (urgency_cmp q.urgency p.urgency) (name_cmp q.job p.job) (is_equal _ e)) in
      let j : q.job ≡ p.job = exact_bytes q.job p.job (then_second (urgency_cmp q.urgency p.urgency) (name_cmp q.job p.job) (is_equal _ e)) in
      let there = sym (l.exact p) ∙ found_there q.job ps p is in
      ap (λ k. is_listed head_cmp head_for is_any q (task_of k ts)) (ap (λ (x : Urgency). x.id) u) ∙ listed p (task_of (rank_id p) ts) u j there
  at p false is e = absurd (cc)

  first : (m : Option Rank) → row_of name_cmp rank_job q.job ps ≡ m → is_head q (first_head m) ≡ true → is_listed head_cmp head_for is_any q (task_of (head_id q) ts) ≡ true
  first None is e = absurd (cc)
  first (Some p) is e = at p (p.is_free && not p.is_spent) is e

-- so they are no more than the tasks
pub few_heads : (ts : List Task) (ps : List Rank) (most : ℕ) → length ts ≤ most → IsListing rank_cmp rank_id rank_of is_any ts ps → HasHeadsUpTo most ps
few_heads ts ps most le l hs heads =
    let few : length hs ≤ length ts = no_longer head_cmp head_total head_id head_for is_any hs ts heads.rising (λ q there. head_listed ts ps l q (sym (heads.exact q) ∙ there)) in
    omega (arith, le, few)

-- and there is room for the head that comes
pub head_space : (job : List ℕ) (ps : List Rank) (hs : List Head) (capacity : ℕ) → HasHeadsUpTo capacity ps → (h : Head) → head_of job ps ≡ Some h → AreHeadsBut job ps hs → T (has_row head_cmp (λ t. t) h hs || nat_lt (length hs) capacity)
head_space job ps hs capacity few h e but = room_left head_cmp (λ t. t) head_total h hs capacity but.rising (few (put head_cmp (λ t. t) h hs) (head_added job ps hs (Some h) e but))

-- ---- a rank behind the first of its job

module _ (p : Rank) where
  -- what is no later than the first comes before it too
  later : (y first : Rank) (r : Ordering) → rank_cmp y first ≡ r → is_gt r ≡ false → rank_cmp first p ≡ Less → rank_cmp p y ≡ Greater
  later y first Less e g under = rank_total.antisymm p y ∙ ap ordering_reverse (rank_total.trans y first p e under)
  later y first Equal e g under = rank_total.antisymm p y ∙ ap ordering_reverse (rank_total.congr y first p e ∙ under)
  later y first Greater e g under = absurd (cc)

  first_stays : (first : Rank) (ps : List Rank) → T (is_rising rank_cmp (λ x. x) ps) → row_of name_cmp rank_job p.job ps ≡ Some first → rank_cmp first p ≡ Less
      → row_of name_cmp rank_job p.job (put rank_cmp (λ x. x) p ps) ≡ Some first
  first_stays first [] rising found under = absurd (cc)
  first_stays first (y ∷ ys) rising found under =
      let least = first_least rank_cmp rank_total y first ys rising (found_there p.job (y ∷ ys) first found) in
      ap (λ r. row_of name_cmp rank_job p.job (by_order r (p ∷ y ∷ ys) (p ∷ ys) (y ∷ put rank_cmp (λ x. x) p ys))) (later y first (rank_cmp y first) refl least under)
      ∙ by (same_job p.job y.job) found (λ rest. first_stays first ys (second _ _ rising) rest under)
    where
      by : (b : Bool) → cond b (Some y) (row_of name_cmp rank_job p.job ys) ≡ Some first → (row_of name_cmp rank_job p.job ys ≡ Some first → row_of name_cmp rank_job p.job (put rank_cmp (λ x. x) p ys) ≡ Some first)
          → cond b (Some y) (row_of name_cmp rank_job p.job (put rank_cmp (λ x. x) p ys)) ≡ Some first
      by true e rest = e
      by false e rest = rest e

  -- so all heads stay
  pub heads_stay : (ps : List Rank) (hs : List Head) → T (is_rising rank_cmp (λ x. x) ps) → is_behind p (row_of name_cmp rank_job p.job ps) ≡ true → AreHeads ps hs → AreHeads (put rank_cmp (λ x. x) p ps) hs
  heads_stay ps hs rising behind l = record {
    rising = l.rising;
    exact = λ t. l.exact t ∙ ap (λ m. is_head t (first_head m)) (sym (by t.job (same_job t.job p.job) refl));
  } where
    here : (m : Option Rank) → row_of name_cmp rank_job p.job ps ≡ m → is_behind p m ≡ true → row_of name_cmp rank_job p.job (put rank_cmp (λ x. x) p ps) ≡ m
    here None e h = absurd (cc)
    here (Some first) e h = first_stays first ps rising e (less _ (subst T (sym h) tt))

    by : (job : List ℕ) (b : Bool) → same_job job p.job ≡ b → row_of name_cmp rank_job job (put rank_cmp (λ x. x) p ps) ≡ row_of name_cmp rank_job job ps
    by job true s = subst (λ k. row_of name_cmp rank_job k (put rank_cmp (λ x. x) p ps) ≡ row_of name_cmp rank_job k ps) (sym (one_job job p.job s)) (here (row_of name_cmp rank_job p.job ps) refl behind)
    by job false s = row_past_put job p s ps
