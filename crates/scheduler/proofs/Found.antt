-- Rows of a table in order are found by their keys.
use Rattle.std.proofs.Common.{◌≡◌, ℕ, zero, suc, ◌<◌, ◌≤◌, Bool, true, false, cond, ◌&&◌, T, List, [], ◌∷◌, length, get_or, filter, Some, refl, sym, ap, subst, ◌∙◌, arith}
use Rattle.std.specs.List.{AllByRecursion}
use Rattle.std.specs.declared.cmp.Ordering.{Ordering}
use Rattle.std.specs.declared.cmp.Ordering.TheVariants.{Less}
use Rattle.std.specs.Cmp.{IsTotalOrder, nat_cmp_total, tied_itself}
use Rattle.std.specs.Ordering.{nat_cmp, is_eq, is_lt, ordering_reverse}
use Rattle.rows.specs.declared.node.Node.{Node}
use Rattle.rows.specs.declared.allocation.Allocation.{Allocation}
use Rattle.rows.specs.Keys.{node_number, alloc_cmp, alloc_id}
use Rattle.rows.specs.Rising.{is_below, is_rising}
use Rattle.rows.proofs.KeyLaws.{alloc_cmp_total}
use Rattle.fsm_tables.specs.Rows.{row_of}
use Rattle.fsm_tables.specs.Claims.{is_live}
use Rattle.fsm_tables.specs.LiveNames.{is_called, live_named}
use Rattle.fsm_tables.specs.declared.name.AllocName.{AllocName}
use Rattle.fsm_tables.specs.Lookups.{lives_for}
use Rattle.fsm_tables.proofs.RowLaws.{first, second, less, some_same}
use Rattle.fsm_model.specs.Words.{State}
use Rattle.scheduler.specs.Inner.Growing.{IsLiveRow, AreLiveRows}

module _ {K X : Type 0} (R : K → K → Ordering) (key : X → K) (o : IsTotalOrder R) where
  -- a row behind another
  behind : (y z : X) (ys : List X) → R (key y) (key z) ≡ Less → row_of R key (key z) ys ≡ Some z → row_of R key (key z) (y ∷ ys) ≡ Some z
  behind y z ys lt e =
      ap (λ r. cond (is_eq r) (Some y) (row_of R key (key z) ys)) (o.antisymm (key z) (key y) ∙ ap ordering_reverse lt) ∙ e

  all_behind : (y : X) (ys zs : List X) → T (is_below R key (key y) zs) → AllByRecursion (λ z. row_of R key (key z) ys ≡ Some z) zs → AllByRecursion (λ z. row_of R key (key z) (y ∷ ys) ≡ Some z) zs
  all_behind y ys [] h f = tt
  all_behind y ys (z ∷ zs) h f = (behind y z ys (less _ (first _ _ h)) f.0, all_behind y ys zs (second _ _ h) f.1)

  pub each_found : (ys : List X) → T (is_rising R key ys) → AllByRecursion (λ z. row_of R key (key z) ys ≡ Some z) ys
  each_found [] h = tt
  each_found (y ∷ ys) h = (
    ap (λ r. cond (is_eq r) (Some y) (row_of R key (key y) ys)) (tied_itself o (key y)),
    all_behind y ys ys (first _ _ h) (each_found ys (second _ _ h)),
  )

module _ {A : Type 0} (P : A → Type 0) where
  pub all_at : (xs : List A) (i : ℕ) (d : A) → AllByRecursion P xs → i < length xs → P (get_or xs i d)
  all_at [] i d h lt = absurd (omega (arith, lt))
  all_at (x ∷ xs) zero d h lt = h.0
  all_at (x ∷ xs) (suc i) d h lt = all_at xs i d h.1 (omega (arith, lt))

  pub all_filtered : (p : A → Bool) (xs : List A) → AllByRecursion P xs → AllByRecursion P (filter p xs)
  all_filtered p [] h = tt
  all_filtered p (x ∷ xs) h = elim (p x) as (λ b. AllByRecursion P (cond b (x ∷ filter p xs) (filter p xs))) [
    | true ↦ (h.0, all_filtered p xs h.1)
    | false ↦ all_filtered p xs h.1
  ]

-- ---- nodes

pub node_found : (nodes : List Node) (i : ℕ) (d : Node) → T (is_rising nat_cmp node_number nodes) → i < length nodes → row_of nat_cmp node_number (get_or nodes i d).number nodes ≡ Some (get_or nodes i d)
node_found nodes i d h lt = all_at (λ z. row_of nat_cmp node_number z.number nodes ≡ Some z) nodes i d (each_found nat_cmp node_number nat_cmp_total nodes h) lt

number_below : (a b : ℕ) → T (is_lt (nat_cmp a b)) → a < b
number_below a b h = grind arith

below_each : (k : ℕ) (nodes : List Node) (i : ℕ) (d : Node) → T (is_below nat_cmp node_number k nodes) → i < length nodes → k < (get_or nodes i d).number
below_each k [] i d h lt = absurd (omega (arith, lt))
below_each k (n ∷ nodes) zero d h lt = number_below k n.number (first _ _ h)
below_each k (n ∷ nodes) (suc i) d h lt = below_each k nodes i d (second _ _ h) (omega (arith, lt))

pub numbers_rise : (nodes : List Node) (i j : ℕ) (d e : Node) → T (is_rising nat_cmp node_number nodes) → i ≤ j → j < length nodes → (get_or nodes i d).number ≤ (get_or nodes j e).number
numbers_rise [] i j d e h le lt = absurd (omega (arith, lt))
numbers_rise (n ∷ nodes) zero zero d e h le lt = omega arith
numbers_rise (n ∷ nodes) zero (suc j) d e h le lt = let below = below_each n.number nodes j e (first _ _ h) (omega (arith, lt)) in omega (arith, below)
numbers_rise (n ∷ nodes) (suc i) zero d e h le lt = absurd (omega (arith, le))
numbers_rise (n ∷ nodes) (suc i) (suc j) d e h le lt = numbers_rise nodes i j d e (second _ _ h) (omega (arith, le)) (omega (arith, lt))

-- ---- allocations

named_among : (P : Allocation → Type 0) (n : AllocName) (a : Allocation) (rows : List Allocation) → AllByRecursion P rows → live_named n rows ≡ Some a → (is_live a ≡ true) × P a
named_among P n a [] h e = absurd cc
named_among P n a (b ∷ rows) h e =
    elim (is_live b) as (λ l. is_live b ≡ l → cond (l && is_called n b) (Some b) (live_named n rows) ≡ Some a → (is_live a ≡ true) × P a) [
      | true ↦ λ l. elim (is_called n b) as (λ c. cond c (Some b) (live_named n rows) ≡ Some a → (is_live a ≡ true) × P a) [
        | true ↦ λ same. let is : b ≡ a = some_same b a same in (ap is_live (sym is) ∙ l, subst P is h.0)
        | false ↦ λ rest. named_among P n a rows h.1 rest
      ]
      | false ↦ λ l rest. named_among P n a rows h.1 rest
    ] refl e

-- what a name finds is a live row
pub named_live : (s : State) (n : AllocName) (a : Allocation) → T (is_rising alloc_cmp alloc_id s.allocs) → live_named n s.allocs ≡ Some a → IsLiveRow s a
named_live s n a h e = named_among (λ z. row_of alloc_cmp alloc_id z.id s.allocs ≡ Some z) n a s.allocs (each_found alloc_cmp alloc_id alloc_cmp_total s.allocs h) e

live_first : (l b : Bool) → (l && b) ≡ true → l ≡ true
live_first true b e = refl
live_first false b e = e

those_of_job : (P : Allocation → Type 0) (job : List ℕ) (rows : List Allocation) → AllByRecursion P rows → AllByRecursion (λ a. (is_live a ≡ true) × P a) (filter (lives_for job) rows)
those_of_job P job [] h = tt
those_of_job P job (a ∷ rows) h = elim (lives_for job a) as (λ b. lives_for job a ≡ b → AllByRecursion (λ a. (is_live a ≡ true) × P a) (cond b (a ∷ filter (lives_for job) rows) (filter (lives_for job) rows))) [
  | true ↦ λ e. ((live_first (is_live a) _ e, h.0), those_of_job P job rows h.1)
  | false ↦ λ e. those_of_job P job rows h.1
] refl

-- and so are the live ones of a job
pub job_live : (s : State) (job : List ℕ) → T (is_rising alloc_cmp alloc_id s.allocs) → AreLiveRows s (filter (lives_for job) s.allocs)
job_live s job h = those_of_job (λ z. row_of alloc_cmp alloc_id z.id s.allocs ≡ Some z) job s.allocs (each_found alloc_cmp alloc_id alloc_cmp_total s.allocs h)
