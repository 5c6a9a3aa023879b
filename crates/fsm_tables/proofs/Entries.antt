-- The entries of rows, and which rows those between two entries are of.
use Rattle.std.proofs.Common.{◌≡◌, ◌≢◌, Bool, true, false, not, cond, ◌&&◌, ◌⊎◌, inl, inr, T, List, [], ◌∷◌, Option, Some, None, refl, sym, ap, subst, ◌∙◌}
use Rattle.std.specs.Prelude.{filter, map, ◌||◌, option_map}
use Rattle.std.specs.Option.{option_and_then}
use Rattle.std.specs.List.{list_any, slice_get, AllByRecursion}
use Rattle.std.specs.List.Sorted.{IsStrictlySortedBy}
use Rattle.std.specs.declared.cmp.Ordering.{Ordering}
use Rattle.std.specs.declared.cmp.Ordering.TheVariants.{Less, Equal, Greater}
use Rattle.std.specs.BTreeMap.{is_at}
use Rattle.std.specs.Cmp.{IsTotalOrder, tied_itself, tied_back, alike_right, on_total, then_total, both_ways}
use Rattle.std.specs.Ordering.{is_eq, is_le, is_lt, ordering_then, ordering_reverse}
use Rattle.rows.specs.declared.allocation.AllocId.{AllocId}
use Rattle.rows.specs.declared.allocation.Allocation.{Allocation}
use Rattle.rows.specs.Keys.{alloc_cmp, alloc_id}
use Rattle.rows.proofs.KeyLaws.{alloc_cmp_total}
use Rattle.fsm_tables.specs.declared.index.Entry.{Entry}
use Rattle.fsm_tables.specs.Inner.Index.{entry_cmp, entry_under, entry_of, is_entry, is_in, AreIndexed, has_id, is_within, is_entry_within, is_between, passes, entries_between, AreIdsOf}
use Rattle.fsm_tables.specs.Rows.{row_of}
use Rattle.rows.specs.Rising.{is_rising}
use Rattle.fsm_tables.proofs.RowLaws.{equal}
use Rattle.fsm_tables.proofs.Filters.{exact_ids, row_found, rows_are_filtered, first_row, some_row}

-- the entry of a row has its id
pub entry_id : {K : Type 0} (a : Allocation) (z : Option K) (e : Entry K) → entry_under a.id z ≡ Some e → e.id ≡ a.id
entry_id a None e h = absurd cc
entry_id {K} a (Some k) e h =
    let here : record { key = k; id = a.id } ≡ e = cc in
    sym (ap (λ (x : Entry K). x.id) here)

pub tie_reversed : (r : Ordering) → is_eq (ordering_reverse r) ≡ is_eq r
tie_reversed Less = refl
tie_reversed Equal = refl
tie_reversed Greater = refl

only : (r lo hi : Ordering) → (is_le (ordering_then r lo) && not (is_lt (ordering_then r hi))) ≡ true → r ≡ Equal
only Less lo hi h = absurd cc
only Equal lo hi h = refl
only Greater lo hi h = absurd cc

module _ {K : Type 0} (R : K → K → Ordering) (o : IsTotalOrder R) where
  pub entries_total : IsTotalOrder (entry_cmp R)
  entries_total = then_total (on_total (λ (e : Entry K). e.key) o) (on_total (λ (e : Entry K). e.id) alloc_cmp_total)

  -- whether an entry is kept is the same at each entry that it ties with
  pub this_or_kept : (e k : Entry K) (kept : Option (Entry K)) → (is_entry R (Some e) k && not (is_entry R kept k)) ≡ (is_eq (entry_cmp R e k) && not (is_entry R kept e))
  this_or_kept e k None = refl
  this_or_kept e k (Some f) =
      elim (is_eq (entry_cmp R e k)) as (λ b. is_eq (entry_cmp R e k) ≡ b → (b && not (is_eq (entry_cmp R f k))) ≡ (b && not (is_eq (entry_cmp R f e)))) [
        | true ↦ λ t. ap (λ r. not (is_eq r)) (sym (alike_right entries_total e k f (equal _ (subst T (sym t) tt))))
        | false ↦ λ t. refl
      ] refl

  off : (b now : Bool) → cond b false now ≡ cond (b && true) false now
  off true now = refl
  off false now = refl

  -- an entry that is not kept is removed
  pub removed : (e : Entry K) (old kept : Option (Entry K)) (k : Entry K) (now after : Bool) → old ≡ Some e → is_entry R kept e ≡ false → after ≡ cond (is_eq (entry_cmp R e k)) false now
      → after ≡ cond (is_entry R old k && not (is_entry R kept k)) false now
  removed e old kept k now after is other h =
      h ∙ off (is_eq (entry_cmp R e k)) now
      ∙ ap (λ b. cond (is_eq (entry_cmp R e k) && not b) false now) (sym other)
      ∙ ap (λ b. cond b false now) (sym (this_or_kept e k kept))
      ∙ ap (λ z. cond (is_entry R z k && not (is_entry R kept k)) false now) (sym is)

  -- one that was not there is added
  pub added : (e : Entry K) (more had : Option (Entry K)) (k : Entry K) (now after : Bool) → more ≡ Some e → is_entry R had e ≡ false → after ≡ cond (is_eq (entry_cmp R e k)) true now
      → after ≡ cond (is_entry R more k && not (is_entry R had k)) true now
  added e more had k now after is other h =
      h ∙ on (is_eq (entry_cmp R e k)) now
      ∙ ap (λ b. cond (is_eq (entry_cmp R e k) && not b) true now) (sym other)
      ∙ ap (λ b. cond b true now) (sym (this_or_kept e k had))
      ∙ ap (λ z. cond (is_entry R z k && not (is_entry R had k)) true now) (sym is)
    where
      on : (b c : Bool) → cond b true c ≡ cond (b && true) true c
      on true c = refl
      on false c = refl

  -- ---- a put

  pub then_ids : (r s : Ordering) → ordering_then r s ≡ Equal → s ≡ Equal
  then_ids Less s h = absurd cc
  then_ids Equal s h = h
  then_ids Greater s h = absurd cc

  -- an entry that a row has is under the row's id
  pub own_id : (a : Allocation) (z : Option K) (k : Entry K) → is_entry R (entry_under a.id z) k ≡ true → is_eq (alloc_cmp k.id a.id) ≡ true
  own_id a None k h = absurd cc
  own_id a (Some x) k h = ap is_eq (tied_back alloc_cmp_total a.id k.id (then_ids (R x k.key) (alloc_cmp a.id k.id) (equal _ (subst T (sym h) tt))))

  -- ---- the ids between two entries

  or_true : (b : Bool) → (b || true) ≡ true
  or_true true = refl
  or_true false = refl

  or_cases : (a b : Bool) → (a || b) ≡ true → (a ≡ true) ⊎ (b ≡ true)
  or_cases true b h = inl refl
  or_cases false b h = inr h

  -- one of some that pass
  abbrev Found : {X : Type 0} → (X → X → Ordering) → (X → Bool) → (X → Bool) → List X → Type 0
  Found {X} C f g ks = (e : X) × (f e ≡ true) × (g e ≡ true) × (list_any (is_at (C e)) ks ≡ true)

  found_behind : {X : Type 0} (C : X → X → Ordering) (f g : X → Bool) (k : X) (ks : List X) → Found C f g ks → Found C f g (k ∷ ks)
  found_behind C f g k ks h = (h.0, h.1, h.2, ap (λ b. is_at (C h.0) k || b) h.3 ∙ or_true (is_at (C h.0) k))

  any_found : {X : Type 0} (C : X → X → Ordering) (t : IsTotalOrder C) (f g : X → Bool) (ks : List X) → list_any f (filter g ks) ≡ true → Found C f g ks
  any_found C t f g [] h = absurd cc
  any_found C t f g (k ∷ ks) h =
      elim (g k) as (λ b. g k ≡ b → list_any f (cond b (k ∷ filter g ks) (filter g ks)) ≡ true → Found C f g (k ∷ ks)) [
        | true ↦ λ q e.
            elim (or_cases (f k) (list_any f (filter g ks)) e) [
              | inl here ↦ (k, here, q, ap (λ r. is_eq r || list_any (is_at (C k)) ks) (tied_itself t k))
              | inr later ↦ found_behind C f g k ks (any_found C t f g ks later)
            ]
        | false ↦ λ q e. found_behind C f g k ks (any_found C t f g ks e)
      ] refl h

  any_kept : {X : Type 0} (C : X → X → Ordering) (f g : X → Bool) (e : X) (ks : List X) → ((k : X) → C e k ≡ Equal → (f k ≡ true) × (g k ≡ true)) → list_any (is_at (C e)) ks ≡ true → list_any f (filter g ks) ≡ true
  any_kept C f g e [] both h = h
  any_kept C f g e (k ∷ ks) both h =
      elim (is_eq (C e k)) as (λ b. is_eq (C e k) ≡ b → (b || list_any (is_at (C e)) ks) ≡ true → list_any f (cond (g k) (k ∷ filter g ks) (filter g ks)) ≡ true) [
        | true ↦ λ q p.
            let is = both k (equal _ (subst T (sym q) tt)) in
            ap (λ b. list_any f (cond b (k ∷ filter g ks) (filter g ks))) is.1 ∙ ap (λ b. b || list_any f (filter g ks)) is.0
        | false ↦ λ q p.
            elim (g k) as (λ b. list_any f (cond b (k ∷ filter g ks) (filter g ks)) ≡ true) [
              | true ↦ ap (λ b. f k || b) (any_kept C f g e ks both p) ∙ or_true (f k)
              | false ↦ any_kept C f g e ks both p
            ]
      ] refl h

  -- an entry that ties with another is between two others where that one is
  pub range_tied : (lo hi e k : Entry K) → entry_cmp R e k ≡ Equal → is_within R lo hi e ≡ is_within R lo hi k
  range_tied lo hi e k tie =
      ap (λ r. is_le r && not (is_lt (entry_cmp R hi e))) (alike_right entries_total e k lo tie)
      ∙ ap (λ r. is_le (entry_cmp R lo k) && not (is_lt r)) (alike_right entries_total e k hi tie)

  -- some entries have an id
  some_id : (es : List (Entry K)) → es ≢ [] → (i : AllocId) × (list_any (λ e. is_eq (alloc_cmp e.id i)) es ≡ true)
  some_id [] some = absurd (some refl)
  some_id (e ∷ es) some = (e.id, ap (λ r. is_eq r || list_any (λ d. is_eq (alloc_cmp d.id e.id)) es) (tied_itself alloc_cmp_total e.id))

  module _ (key_of : Allocation → Option K) (rows : List Allocation) (entries : List (Entry K)) (was : AreIndexed R key_of rows entries) (lo hi : Entry K) where
    -- an entry of the set is the entry of the row of its id
    owned : (i : AllocId) (e : Entry K) (r : Option Allocation) → row_of alloc_cmp alloc_id e.id rows ≡ r → is_entry R (entry_of key_of r) e ≡ true → is_within R lo hi e ≡ true
        → passes (is_between R key_of lo hi) r ≡ true
    owned i e None p h g = absurd cc
    owned i e (Some a) p h g =
        elim (entry_of key_of (Some a)) as (λ z. is_entry R z e ≡ true → is_entry_within R lo hi z ≡ true) [
          | None ↦ λ q. absurd cc
          | Some f ↦ λ q. range_tied lo hi f e (equal _ (subst T (sym q) tt)) ∙ g
        ] h

    given : (i : AllocId) → has_id R lo hi entries i ≡ true → passes (is_between R key_of lo hi) (row_of alloc_cmp alloc_id i rows) ≡ true
    given i h =
        let p = any_found (entry_cmp R) entries_total (λ (e : Entry K). is_eq (alloc_cmp e.id i)) (is_within R lo hi) entries h in
        let same : p.0.id ≡ i = exact_ids p.0.id i (equal _ (subst T (sym p.1) tt)) in
        subst (λ j. passes (is_between R key_of lo hi) (row_of alloc_cmp alloc_id j rows) ≡ true) same
        (owned i p.0 (row_of alloc_cmp alloc_id p.0.id rows) refl (sym (was p.0) ∙ p.3) p.2)

    standing : (i : AllocId) (a : Allocation) (z : Option (Entry K)) → row_of alloc_cmp alloc_id i rows ≡ Some a → entry_of key_of (Some a) ≡ z → is_entry_within R lo hi z ≡ true → has_id R lo hi entries i ≡ true
    standing i a None p q h = absurd cc
    standing i a (Some e) p q h =
        let id : e.id ≡ a.id = entry_id a (key_of a) e q in
        let row : row_of alloc_cmp alloc_id e.id rows ≡ Some a = ap (λ j. row_of alloc_cmp alloc_id j rows) (id ∙ row_found i a rows p) ∙ p in
        let has : is_in R e entries ≡ true = was e ∙ ap (λ r. is_entry R (entry_of key_of r) e) row ∙ ap (λ x. is_entry R x e) q ∙ ap is_eq (tied_itself entries_total e) in
        any_kept (entry_cmp R) (λ (k : Entry K). is_eq (alloc_cmp k.id i)) (is_within R lo hi) e entries
        (λ k tie. (
          ap is_eq (ap (λ j. alloc_cmp k.id j) (sym (id ∙ row_found i a rows p)) ∙ tied_back alloc_cmp_total e.id k.id (then_ids (R e.key k.key) (alloc_cmp e.id k.id) tie)),
          sym (range_tied lo hi e k tie) ∙ h,
        )) has

    taken : (i : AllocId) (r : Option Allocation) → row_of alloc_cmp alloc_id i rows ≡ r → passes (is_between R key_of lo hi) r ≡ true → has_id R lo hi entries i ≡ true
    taken i None p h = absurd cc
    taken i (Some a) p h = standing i a (entry_of key_of (Some a)) p refl h

    -- they are those of the rows that are listed between them
    pub ids_of_rows : (i : AllocId) → has_id R lo hi entries i ≡ passes (is_between R key_of lo hi) (row_of alloc_cmp alloc_id i rows)
    ids_of_rows i = both_ways _ _ (given i) (taken i (row_of alloc_cmp alloc_id i rows) refl)

    -- where there are some, a row passes
    pub some_listed : entries_between R lo hi entries ≢ [] → filter (is_between R key_of lo hi) rows ≢ []
    some_listed some = let one = some_id (entries_between R lo hi entries) some in some_row rows (is_between R key_of lo hi) one.0 (sym (ids_of_rows one.0) ∙ one.1)

    -- ---- the first of them, under one key

    turned_tie : (i : AllocId) (e : Entry K) → is_eq (alloc_cmp i e.id) ≡ is_eq (alloc_cmp e.id i)
    turned_tie i e = ap is_eq (alloc_cmp_total.antisymm i e.id) ∙ tie_reversed (alloc_cmp e.id i)

    any_turned : (i : AllocId) (es : List (Entry K)) → list_any (is_at (alloc_cmp i)) (map (λ e. e.id) es) ≡ list_any (λ e. is_eq (alloc_cmp e.id i)) es
    any_turned i [] = refl
    any_turned i (e ∷ es) = λ j. turned_tie i e j || any_turned i es j

    pub ids_are : AreIdsOf (is_between R key_of lo hi) rows (map (λ e. e.id) (entries_between R lo hi entries))
    ids_are i = any_turned i (entries_between R lo hi entries) ∙ ids_of_rows i

  -- entries between those of one key have that key
  key_tied : (k : K) (lo hi : AllocId) (e : Entry K) → is_within R (record { key = k; id = lo }) (record { key = k; id = hi }) e ≡ true → R k e.key ≡ Equal
  key_tied k lo hi e h = only (R k e.key) (alloc_cmp lo e.id) (alloc_cmp hi e.id) h

  ids_rise : (k : K) (d e : Entry K) → R k d.key ≡ Equal → R k e.key ≡ Equal → entry_cmp R d e ≡ Less → alloc_cmp d.id e.id ≡ Less
  ids_rise k d e p q h = sym (ap (λ r. ordering_then r (alloc_cmp d.id e.id)) (sym (o.congr k d.key e.key p) ∙ q)) ∙ h

  module _ (k : K) (lo hi : AllocId) where
    abbrev within : Entry K → Bool
    within = is_within R (record { key = k; id = lo }) (record { key = k; id = hi })

    ids_below : (d : Entry K) (es : List (Entry K)) → R k d.key ≡ Equal → AllByRecursion (λ e. entry_cmp R d e ≡ Less) es → AllByRecursion (λ i. alloc_cmp d.id i ≡ Less) (map (λ e. e.id) (filter within es))
    ids_below d [] p h = tt
    ids_below d (e ∷ es) p h =
        elim (within e) as (λ b. within e ≡ b → AllByRecursion (λ i. alloc_cmp d.id i ≡ Less) (map (λ x. x.id) (cond b (e ∷ filter within es) (filter within es)))) [
          | true ↦ λ w. (ids_rise k d e p (key_tied k lo hi e w) h.0, ids_below d es p h.1)
          | false ↦ λ w. ids_below d es p h.1
        ] refl

    pub ids_sorted : (es : List (Entry K)) → IsStrictlySortedBy (entry_cmp R) es → IsStrictlySortedBy alloc_cmp (map (λ e. e.id) (filter within es))
    unfolding IsStrictlySortedBy
    ids_sorted [] h = tt
    ids_sorted (e ∷ es) h =
        elim (within e) as (λ b. within e ≡ b → IsStrictlySortedBy alloc_cmp (map (λ x. x.id) (cond b (e ∷ filter within es) (filter within es)))) [
          | true ↦ λ w. (ids_below e es (key_tied k lo hi e w) h.0, ids_sorted es h.1)
          | false ↦ λ w. ids_sorted es h.1
        ] refl

  module _ (key_of : Allocation → Option K) (rows : List Allocation) (entries : List (Entry K)) (was : AreIndexed R key_of rows entries) (k : K) (lo hi : AllocId) where
    abbrev first_of : Entry K
    first_of = record { key = k; id = lo }

    abbrev last_of : Entry K
    last_of = record { key = k; id = hi }

    first_id : (es : List (Entry K)) → slice_get (map (λ (e : Entry K). e.id) es) 0 ≡ option_map (λ (e : Entry K). e.id) (slice_get es 0)
    first_id [] = refl
    first_id (e ∷ es) = refl

    -- the row of the first entry under a key is the first of the rows that are listed under it
    pub first_listed : T (is_rising alloc_cmp alloc_id rows) → IsStrictlySortedBy (entry_cmp R) entries → (z : Option AllocId) → z ≡ option_map (λ (e : Entry K). e.id) (slice_get (entries_between R first_of last_of entries) 0)
        → option_and_then (λ i. row_of alloc_cmp alloc_id i rows) z ≡ slice_get (filter (is_between R key_of first_of last_of) rows) 0
    first_listed rising sorted z is =
        let ids = map (λ (e : Entry K). e.id) (entries_between R first_of last_of entries) in
        let has = ids_are key_of rows entries was first_of last_of in
        ap (option_and_then (λ i. row_of alloc_cmp alloc_id i rows)) (is ∙ sym (first_id (entries_between R first_of last_of entries)))
        ∙ first_row rows (is_between R key_of first_of last_of) ids has
        ∙ ap (λ xs. slice_get xs 0) (rows_are_filtered rows (is_between R key_of first_of last_of) ids rising (ids_sorted k lo hi entries sorted) has)
