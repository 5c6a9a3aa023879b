-- Which rows lie between the entries that each look-up asks for.
use Rattle.std.proofs.Common.{◌≡◌, ℕ, zero, suc, ◌<◌, ◌≤◌, Bool, true, false, not, cond, ◌&&◌, List, [], ◌∷◌, length, replicate, Some, None, refl, ap, ◌∙◌, arith}
use Rattle.std.specs.Prelude.{filter, nat_eq, bytes_eq}
use Rattle.std.specs.List.{AllByRecursion, list_all, slice_get}
use Rattle.std.specs.declared.cmp.Ordering.{Ordering}
use Rattle.std.specs.declared.cmp.Ordering.TheVariants.{Less, Equal, Greater}
use Rattle.std.specs.Cmp.{IsTotalOrder, first_so, second_so, nat_cmp_total, bool_cmp_total, on_total, then_total}
use Rattle.std.specs.Cmp.Lexicographic.{slice_cmp, nat_list_eq_equiv}
use Rattle.std.specs.Ordering.{nat_cmp, bool_cmp, is_eq, is_le, is_lt, ordering_then}
use Rattle.std.proofs.lemmas.Cmp.{nat_list_cmp_total}
use Rattle.std.proofs.lemmas.Map.Text.{is_eq-slice_cmp}
use Rattle.rows.specs.declared.allocation.AllocId.{AllocId}
use Rattle.rows.specs.declared.allocation.Allocation.{Allocation}
use Rattle.rows.specs.Fits.{AllocationFits, AllocIdFits}
use Rattle.rows.specs.Names.{NameFits, is_name_byte}
use Rattle.rows.specs.Keys.{name_cmp, alloc_cmp}
use Rattle.fsm_tables.specs.declared.name.AllocName.{AllocName}
use Rattle.fsm_tables.specs.declared.index_keys.OnNode.{OnNode}
use Rattle.fsm_tables.specs.Claims.{is_active, is_wanted, is_live}
use Rattle.fsm_tables.specs.LiveNames.{name_of, is_called, live_named}
use Rattle.fsm_tables.specs.Lookups.{lives_as, lives_for, lives_on, is_active_on}
use Rattle.fsm_tables.specs.Inner.Index.{entry_cmp, entry_under, is_entry_within, is_between}
use Rattle.fsm_tables.specs.Inner.Keys.{alloc_name_cmp, live_name, on_node_cmp, active_on, least_id, greatest_id, first_entry, last_entry, least_name, greatest_name}

pub names_total : IsTotalOrder alloc_name_cmp
names_total = then_total (on_total (λ (n : AllocName). n.job) nat_list_cmp_total) (then_total (on_total (λ (n : AllocName). n.group) nat_list_cmp_total) (on_total (λ (n : AllocName). n.index) nat_cmp_total))

pub nodes_total : IsTotalOrder on_node_cmp
nodes_total = then_total (on_total (λ (n : OnNode). n.node) nat_cmp_total) (on_total (λ (n : OnNode). n.live) bool_cmp_total)

-- ---- parts of an order

le_then : (r s : Ordering) → is_le r ≡ true → is_le s ≡ true → is_le (ordering_then r s) ≡ true
le_then Less s h k = refl
le_then Equal s h k = k
le_then Greater s h k = h

not_lt_then : (r s : Ordering) → is_lt r ≡ false → is_lt s ≡ false → is_lt (ordering_then r s) ≡ false
not_lt_then Less s h k = h
not_lt_then Equal s h k = k
not_lt_then Greater s h k = refl

then_assoc : (r s t : Ordering) → ordering_then (ordering_then r s) t ≡ ordering_then r (ordering_then s t)
then_assoc Less s t = refl
then_assoc Equal s t = refl
then_assoc Greater s t = refl

pub eq_then : (r s : Ordering) → is_eq (ordering_then r s) ≡ (is_eq r && is_eq s)
eq_then Less s = refl
eq_then Equal s = refl
eq_then Greater s = refl

-- between two bounds that begin alike is what begins as they do
within_then : (r lo hi : Ordering) → is_le lo ≡ true → is_lt hi ≡ false → (is_le (ordering_then r lo) && not (is_lt (ordering_then r hi))) ≡ is_eq r
within_then Less lo hi h k = refl
within_then Equal lo hi h k = ap (λ b. b && not (is_lt hi)) h ∙ ap not k
within_then Greater lo hi h k = refl

-- ---- the least and the greatest of each part

from_least : (i : AllocId) → AllocIdFits i → is_le (alloc_cmp least_id i) ≡ true
from_least i fits = let from_one : 1 ≤ i.index = fits.0.0 in le_then (nat_cmp 1 i.index) (nat_cmp 0 i.slot) (grind arith) (grind arith)

to_greatest : (i : AllocId) → AllocIdFits i → is_lt (alloc_cmp greatest_id i) ≡ false
to_greatest i fits =
    let index : i.index < 1099511627776 = fits.0.1 in
    let slot : i.slot ≤ 63 = fits.1 in
    not_lt_then (nat_cmp 1099511627775 i.index) (nat_cmp 63 i.slot) (grind arith) (grind arith)

byte_bounds : (b : ℕ) → is_name_byte b ≡ true → (45 ≤ b) × (b ≤ 122)
byte_bounds b h = grind arith

from_dash : (g : List ℕ) → NameFits g → is_le (slice_cmp nat_cmp (45 ∷ []) g) ≡ true
from_dash [] fits = absurd (omega (arith, fits.0))
from_dash (b ∷ bs) fits =
    let bounds = byte_bounds b (first_so (is_name_byte b) (list_all is_name_byte bs) fits.2) in
    let low : 45 ≤ b = bounds.0 in
    le_then (nat_cmp 45 b) (slice_cmp nat_cmp [] bs) (grind arith) (nothing bs)
  where
    nothing : (bs : List ℕ) → is_le (slice_cmp nat_cmp [] bs) ≡ true
    nothing [] = refl
    nothing (b ∷ bs) = refl

below_zs : (n : ℕ) (g : List ℕ) → length g ≤ n → list_all is_name_byte g ≡ true → is_lt (slice_cmp nat_cmp (replicate n 122) g) ≡ false
below_zs zero [] le h = refl
below_zs zero (b ∷ bs) le h = absurd (omega arith)
below_zs (suc n) [] le h = refl
below_zs (suc n) (b ∷ bs) le h =
    let bounds = byte_bounds b (first_so (is_name_byte b) (list_all is_name_byte bs) h) in
    let high : b ≤ 122 = bounds.1 in
    not_lt_then (nat_cmp 122 b) (slice_cmp nat_cmp (replicate n 122) bs) (grind arith) (below_zs n bs (omega arith) (second_so (is_name_byte b) (list_all is_name_byte bs) h))

-- ---- the rows between them

bytes_turned : (a b : List ℕ) → is_eq (name_cmp a b) ≡ bytes_eq b a
bytes_turned a b = is_eq-slice_cmp a b ∙ nat_list_eq_equiv.symm a b

nat_turned : (a b : ℕ) → is_eq (nat_cmp a b) ≡ nat_eq b a
nat_turned a b = grind arith

bool_true : (b : Bool) → is_eq (bool_cmp true b) ≡ b
bool_true true = refl
bool_true false = refl

regrouped : (a b c : Bool) → (a && (b && c)) ≡ (a && b && c)
regrouped true b c = refl
regrouped false b c = refl

turned : (a b : Bool) → (a && b) ≡ (b && a)
turned true true = refl
turned true false = refl
turned false true = refl
turned false false = refl

pub called : (n : AllocName) (a : Allocation) → is_eq (alloc_name_cmp n (name_of a)) ≡ is_called n a
called n a =
    eq_then (name_cmp n.job a.job) (ordering_then (name_cmp n.group a.group) (nat_cmp n.index a.index))
    ∙ ap (λ b. is_eq (name_cmp n.job a.job) && b) (eq_then (name_cmp n.group a.group) (nat_cmp n.index a.index))
    ∙ regrouped (is_eq (name_cmp n.job a.job)) (is_eq (name_cmp n.group a.group)) (is_eq (nat_cmp n.index a.index))
    ∙ ap (λ b. b && is_eq (name_cmp n.group a.group) && is_eq (nat_cmp n.index a.index)) (bytes_turned n.job a.job)
    ∙ ap (λ b. bytes_eq a.job n.job && b && is_eq (nat_cmp n.index a.index)) (bytes_turned n.group a.group)
    ∙ ap (λ b. bytes_eq a.job n.job && bytes_eq a.group n.group && b) (nat_turned n.index a.index)

pub between_name : (n : AllocName) (a : Allocation) → AllocationFits a → is_between alloc_name_cmp live_name (first_entry n) (last_entry n) a ≡ lives_as n a
between_name n a fits =
    elim (is_live a) as (λ l. is_entry_within alloc_name_cmp (first_entry n) (last_entry n) (entry_under a.id (cond l (Some (name_of a)) None)) ≡ (l && is_called n a)) [
      | true ↦ within_then (alloc_name_cmp n (name_of a)) (alloc_cmp least_id a.id) (alloc_cmp greatest_id a.id) (from_least a.id fits.0) (to_greatest a.id fits.0) ∙ called n a
      | false ↦ refl
    ]

pub between_job : (j : List ℕ) (a : Allocation) → AllocationFits a → is_between alloc_name_cmp live_name (first_entry (least_name j)) (last_entry (greatest_name j)) a ≡ lives_for j a
between_job j a fits =
    let own = name_cmp j a.job in
    let low : Ordering = ordering_then (ordering_then (name_cmp (45 ∷ []) a.group) (nat_cmp 0 a.index)) (alloc_cmp least_id a.id) in
    let high : Ordering = ordering_then (ordering_then (name_cmp (replicate 32 122) a.group) (nat_cmp 63 a.index)) (alloc_cmp greatest_id a.id) in
    let index : a.index ≤ 63 = fits.3 in
    let lo : is_le low ≡ true = le_then _ _ (le_then _ _ (from_dash a.group fits.2) (grind arith)) (from_least a.id fits.0) in
    let hi : is_lt high ≡ false = not_lt_then _ _ (not_lt_then _ _ (below_zs 32 a.group fits.2.1 fits.2.2) (grind arith)) (to_greatest a.id fits.0) in
    elim (is_live a) as (λ l. is_entry_within alloc_name_cmp (first_entry (least_name j)) (last_entry (greatest_name j)) (entry_under a.id (cond l (Some (name_of a)) None)) ≡ (l && bytes_eq a.job j)) [
      | true ↦
          ap (λ r. is_le r && not (is_lt (entry_cmp alloc_name_cmp (last_entry (greatest_name j)) (record { key = name_of a; id = a.id })))) (then_assoc own (ordering_then (name_cmp (45 ∷ []) a.group) (nat_cmp 0 a.index)) (alloc_cmp least_id a.id))
          ∙ ap (λ r. is_le (ordering_then own low) && not (is_lt r)) (then_assoc own (ordering_then (name_cmp (replicate 32 122) a.group) (nat_cmp 63 a.index)) (alloc_cmp greatest_id a.id))
          ∙ within_then own low high lo hi
          ∙ bytes_turned j a.job
      | false ↦ refl
    ]

pub between_live : (n : ℕ) (a : Allocation) → AllocationFits a → is_between on_node_cmp active_on (first_entry (record { node = n; live = true })) (last_entry (record { node = n; live = true })) a ≡ lives_on n a
between_live n a fits =
    elim (is_active a.client) as (λ l. is_entry_within on_node_cmp (first_entry (record { node = n; live = true })) (last_entry (record { node = n; live = true })) (entry_under a.id (cond l (Some (record { node = a.node; live = is_wanted a.desired })) None)) ≡ (nat_eq a.node n && (is_wanted a.desired && l))) [
      | true ↦
          within_then (ordering_then (nat_cmp n a.node) (bool_cmp true (is_wanted a.desired))) (alloc_cmp least_id a.id) (alloc_cmp greatest_id a.id) (from_least a.id fits.0) (to_greatest a.id fits.0)
          ∙ eq_then (nat_cmp n a.node) (bool_cmp true (is_wanted a.desired))
          ∙ ap (λ b. b && is_eq (bool_cmp true (is_wanted a.desired))) (nat_turned n a.node)
          ∙ ap (λ b. nat_eq a.node n && b) (bool_true (is_wanted a.desired) ∙ turned true (is_wanted a.desired))
      | false ↦ never (nat_eq a.node n) (is_wanted a.desired)
    ]
  where
    never : (a b : Bool) → false ≡ (a && (b && false))
    never true true = refl
    never true false = refl
    never false b = refl

pub between_active : (n : ℕ) (a : Allocation) → AllocationFits a → is_between on_node_cmp active_on (first_entry (record { node = n; live = false })) (last_entry (record { node = n; live = true })) a ≡ is_active_on n a
between_active n a fits =
    let own = nat_cmp n a.node in
    let low : Ordering = ordering_then (bool_cmp false (is_wanted a.desired)) (alloc_cmp least_id a.id) in
    let high : Ordering = ordering_then (bool_cmp true (is_wanted a.desired)) (alloc_cmp greatest_id a.id) in
    let lo : is_le low ≡ true = le_then (bool_cmp false (is_wanted a.desired)) _ (from_false (is_wanted a.desired)) (from_least a.id fits.0) in
    let hi : is_lt high ≡ false = not_lt_then (bool_cmp true (is_wanted a.desired)) _ (to_true (is_wanted a.desired)) (to_greatest a.id fits.0) in
    elim (is_active a.client) as (λ l. is_entry_within on_node_cmp (first_entry (record { node = n; live = false })) (last_entry (record { node = n; live = true })) (entry_under a.id (cond l (Some (record { node = a.node; live = is_wanted a.desired })) None)) ≡ (nat_eq a.node n && l)) [
      | true ↦
          ap (λ r. is_le r && not (is_lt (ordering_then (ordering_then own (bool_cmp true (is_wanted a.desired))) (alloc_cmp greatest_id a.id)))) (then_assoc own (bool_cmp false (is_wanted a.desired)) (alloc_cmp least_id a.id))
          ∙ ap (λ r. is_le (ordering_then own low) && not (is_lt r)) (then_assoc own (bool_cmp true (is_wanted a.desired)) (alloc_cmp greatest_id a.id))
          ∙ within_then own low high lo hi
          ∙ nat_turned n a.node
          ∙ turned true (nat_eq a.node n)
      | false ↦ turned false (nat_eq a.node n)
    ]
  where
    from_false : (b : Bool) → is_le (bool_cmp false b) ≡ true
    from_false true = refl
    from_false false = refl

    to_true : (b : Bool) → is_lt (bool_cmp true b) ≡ false
    to_true true = refl
    to_true false = refl

-- tests that agree at rows within their ranges list the same rows
pub listed_alike : (p q : Allocation → Bool) (rows : List Allocation) → ((a : Allocation) → AllocationFits a → p a ≡ q a) → AllByRecursion AllocationFits rows → filter p rows ≡ filter q rows
listed_alike p q [] same fits = refl
listed_alike p q (a ∷ rows) same fits = ap (λ b. cond b (a ∷ filter p rows) (filter p rows)) (same a fits.0) ∙ ap (λ xs. cond (q a) (a ∷ xs) xs) (listed_alike p q rows same fits.1)

-- the live row of a name is the first of those of the name
pub first_of_name : (n : AllocName) (rows : List Allocation) → slice_get (filter (lives_as n) rows) 0 ≡ live_named n rows
first_of_name n [] = refl
first_of_name n (a ∷ rows) = elim (lives_as n a) as (λ b. slice_get (cond b (a ∷ filter (lives_as n) rows) (filter (lives_as n) rows)) 0 ≡ cond b (Some a) (live_named n rows)) [
  | true ↦ refl
  | false ↦ first_of_name n rows
]
