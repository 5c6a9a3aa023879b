-- An index of allocations: an entry for each row that passes a test, in strictly rising order of
-- what the row is found by, and then of its id; and perhaps others, which are no row's.
use Rattle.std.specs.Prelude.{◌≡◌, Bool, true, false, not, if◌then◌else◌, ◌&&◌, List, filter, Option, Some, None, option_map}
use Rattle.std.specs.declared.cmp.Ordering.{Ordering}
use Rattle.std.specs.declared.ops.Bound.TheVariants.{Included}
use Rattle.std.specs.Ordering.{ordering_then, is_eq}
use Rattle.std.specs.List.{list_any, filter_map, slice_get}
use Rattle.std.specs.BTreeSet.{BTreeSet, contains}
use Rattle.std.specs.BTreeMap.{is_at}
use Rattle.std.specs.BTreeMap.Range.{range_contains}
use Rattle.rows.specs.declared.allocation.AllocId.{AllocId}
use Rattle.rows.specs.declared.allocation.Allocation.{Allocation}
use Rattle.rows.specs.Keys.{alloc_cmp, alloc_id}
use Rattle.fsm_tables.specs.declared.index.Entry.{Entry}
use Rattle.fsm_tables.specs.Rows.{row_of}

module _ {K : Type 0} where
  abbrev pub entry_cmp : (K → K → Ordering) → Entry K → Entry K → Ordering
  entry_cmp R a b = ordering_then (R a.key b.key) (alloc_cmp a.id b.id)

  -- the entry of a row under a key, if it has one
  abbrev pub entry_under : AllocId → Option K → Option (Entry K)
  entry_under i None = None
  entry_under i (Some k) = Some (record { key = k; id = i })

  -- the entry of a row, where there is a row and it is listed
  abbrev pub entry_of : (Allocation → Option K) → Option Allocation → Option (Entry K)
  entry_of key_of None = None
  entry_of key_of (Some a) = entry_under a.id (key_of a)

  -- whether it is this entry
  abbrev pub is_entry : (K → K → Ordering) → Option (Entry K) → Entry K → Bool
  is_entry R None k = false
  is_entry R (Some e) k = is_eq (entry_cmp R e k)

  -- whether an entry is one of these
  abbrev pub is_in : (K → K → Ordering) → Entry K → List (Entry K) → Bool
  is_in R e entries = list_any (is_at (entry_cmp R e)) entries

  -- whether the row of an entry's id, if there is one, has this entry
  abbrev pub is_current : (K → K → Ordering) → (Allocation → Option K) → List Allocation → Entry K → Bool
  is_current R key_of rows e = is_entry R (entry_of key_of (row_of alloc_cmp alloc_id e.id rows)) e

  -- the entries that are their rows'
  abbrev pub current : (K → K → Ordering) → (Allocation → Option K) → List Allocation → List (Entry K) → List (Entry K)
  current R key_of rows entries = filter (is_current R key_of rows) entries

  -- the entries have that of each row that is listed, and no other
  abbrev pub AreIndexed : (K → K → Ordering) → (Allocation → Option K) → List Allocation → List (Entry K) → Type 0
  AreIndexed R key_of rows entries = (e : Entry K) → is_in R e entries ≡ is_current R key_of rows e

  -- the entries have that of each row that is listed, and perhaps others
  abbrev pub Covers : (K → K → Ordering) → (Allocation → Option K) → List Allocation → List (Entry K) → Type 0
  Covers R key_of rows entries = (e : Entry K) → is_current R key_of rows e ≡ true → is_in R e entries ≡ true

  -- n has the entries of s and one more, if there is one, unless it is the one that was there
  abbrev pub Gains : (K → K → Ordering) → Option (Entry K) → Option (Entry K) → List (Entry K) → List (Entry K) → Type 0
  Gains R more had s n = (e : Entry K) → is_in R e n ≡ (if is_entry R more e && not (is_entry R had e) then true else is_in R e s)

  -- n has one less, if there is one, unless it is the one that is kept
  abbrev pub Loses : (K → K → Ordering) → Option (Entry K) → Option (Entry K) → List (Entry K) → List (Entry K) → Type 0
  Loses R less kept s n = (e : Entry K) → is_in R e n ≡ (if is_entry R less e && not (is_entry R kept e) then false else is_in R e s)

  -- n has the entries of s, and perhaps others
  abbrev pub Grows : (K → K → Ordering) → List (Entry K) → List (Entry K) → Type 0
  Grows R s n = (e : Entry K) → is_in R e s ≡ true → is_in R e n ≡ true

  -- the same, but for one, if there is one, unless it is the one that is kept
  abbrev pub Keeps : (K → K → Ordering) → Option (Entry K) → Option (Entry K) → List (Entry K) → List (Entry K) → Type 0
  Keeps R less kept s n = (e : Entry K) → (is_entry R less e && not (is_entry R kept e)) ≡ false → is_in R e s ≡ true → is_in R e n ≡ true

  -- whether an entry is from one to another
  abbrev pub is_within : (K → K → Ordering) → Entry K → Entry K → Entry K → Bool
  is_within R first last e = range_contains (entry_cmp R) (Included first) (Included last) e

  -- the entries from one to another
  abbrev pub entries_between : (K → K → Ordering) → Entry K → Entry K → List (Entry K) → List (Entry K)
  entries_between R first last entries = filter (is_within R first last) entries

  -- whether they have one of an id
  abbrev pub has_id : (K → K → Ordering) → Entry K → Entry K → List (Entry K) → AllocId → Bool
  has_id R first last entries i = list_any (λ e. is_eq (alloc_cmp e.id i)) (entries_between R first last entries)

  -- the ids are theirs and no other
  abbrev pub HasIdsBetween : (K → K → Ordering) → Entry K → Entry K → List (Entry K) → BTreeSet AllocId → Type 0
  HasIdsBetween R first last entries ids = (i : AllocId) → contains alloc_cmp ids i ≡ has_id R first last entries i

  -- the id of the first of them, if there is one
  abbrev pub first_id : (K → K → Ordering) → Entry K → Entry K → List (Entry K) → Option AllocId
  first_id R first last entries = option_map (λ (e : Entry K). e.id) (slice_get (entries_between R first last entries) 0)

  -- whether an entry, if there is one, is one of these
  abbrev pub is_entry_within : (K → K → Ordering) → Entry K → Entry K → Option (Entry K) → Bool
  is_entry_within R first last None = false
  is_entry_within R first last (Some e) = is_within R first last e

  -- whether a row is listed between two entries
  abbrev pub is_between : (K → K → Ordering) → (Allocation → Option K) → Entry K → Entry K → Allocation → Bool
  is_between R key_of first last a = is_entry_within R first last (entry_of key_of (Some a))

-- the rows of ids, in their order
abbrev pub rows_at : List Allocation → List AllocId → List Allocation
rows_at rows ids = filter_map (λ i. row_of alloc_cmp alloc_id i rows) ids

-- whether there is a row and it passes
abbrev pub passes : {X : Type 0} → (X → Bool) → Option X → Bool
passes test None = false
passes test (Some x) = test x

-- they are the ids of the rows that pass, and no other
abbrev pub AreIdsOf : (Allocation → Bool) → List Allocation → List AllocId → Type 0
AreIdsOf test rows ids = (i : AllocId) → list_any (is_at (alloc_cmp i)) ids ≡ passes test (row_of alloc_cmp alloc_id i rows)
