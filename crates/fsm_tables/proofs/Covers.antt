-- An index that covers rows: what a put leaves of it, and that those of its entries that are their
-- rows' are the entries of the rows and no other.
use Rattle.std.proofs.Common.{◌≡◌, Bool, true, false, not, cond, ◌&&◌, T, List, [], ◌∷◌, Option, Some, None, is_some, refl, sym, ap, subst, ◌∙◌}
use Rattle.std.specs.Prelude.{filter, ◌||◌}
use Rattle.std.specs.List.{AllByRecursion}
use Rattle.std.specs.List.Sorted.{IsStrictlySortedBy}
use Rattle.std.specs.declared.cmp.Ordering.{Ordering}
use Rattle.std.specs.declared.cmp.Ordering.TheVariants.{Less, Equal}
use Rattle.std.specs.Cmp.{IsTotalOrder, alike_right}
use Rattle.std.specs.Ordering.{is_eq}
use Rattle.rows.specs.declared.allocation.Allocation.{Allocation}
use Rattle.rows.specs.Keys.{alloc_cmp, alloc_id}
use Rattle.rows.specs.Rising.{is_below, is_rising}
use Rattle.rows.proofs.KeyLaws.{alloc_cmp_total}
use Rattle.pages.specs.Rows.{without}
use Rattle.pages.proofs.Without.{row_of-without}
use Rattle.fsm_tables.specs.declared.index.Entry.{Entry}
use Rattle.fsm_tables.specs.Rows.{row_of, has_row, put}
use Rattle.fsm_tables.specs.Inner.Index.{entry_cmp, entry_of, is_entry, is_in, is_current, current, AreIndexed, Covers, Gains, Loses, Grows, Keeps}
use Rattle.fsm_tables.proofs.RowLaws.{first, second, less, equal, row_of-put}
use Rattle.fsm_tables.proofs.Filters.{exact_ids, row_found}
use Rattle.fsm_tables.proofs.Entries.{entries_total, then_ids, own_id, tie_reversed, removed, added}

truth : (b : Bool) → b ≡ true → T b
truth b e = subst T (sym e) tt

or_true : (b : Bool) → (b || true) ≡ true
or_true true = refl
or_true false = refl

module _ {K : Type 0} (R : K → K → Ordering) (o : IsTotalOrder R) where
  abbrev self : Entry K → Entry K
  self e = e

  -- ---- one entry more or less

  in_has : (e : Entry K) (es : List (Entry K)) → is_in R e es ≡ has_row (entry_cmp R) self e es
  in_has e [] = refl
  in_has e (x ∷ es) = elim (is_eq (entry_cmp R e x)) as (λ b. (b || is_in R e es) ≡ is_some (cond b (Some x) (row_of (entry_cmp R) self e es))) [ true ↦ refl | false ↦ in_has e es ]

  put_in : (x : Entry K) (old new : List (Entry K)) → new ≡ put (entry_cmp R) self x old → (e : Entry K) → is_in R e new ≡ cond (is_eq (entry_cmp R x e)) true (is_in R e old)
  put_in x old new is e =
      ap (λ es. is_in R e es) is ∙ in_has e (put (entry_cmp R) self x old)
      ∙ ap (λ r. is_some r) (row_of-put (entry_cmp R) self (entries_total R o) e x old)
      ∙ there (is_eq (entry_cmp R e x)) (row_of (entry_cmp R) self e old)
      ∙ ap (λ b. cond (is_eq (entry_cmp R e x)) true b) (sym (in_has e old))
      ∙ ap (λ b. cond b true (is_in R e old)) (ap is_eq ((entries_total R o).antisymm e x) ∙ tie_reversed (entry_cmp R x e))
    where
      there : (b : Bool) (r : Option (Entry K)) → is_some (cond b (Some x) r) ≡ cond b true (is_some r)
      there true r = refl
      there false r = refl

  pub gained : (x : Entry K) (old new : List (Entry K)) (more had : Option (Entry K)) → more ≡ Some x → is_entry R had x ≡ false → new ≡ put (entry_cmp R) self x old → Gains R more had old new
  gained x old new more had some other is e = added R o x more had e (is_in R e old) (is_in R e new) some other (put_in x old new is e)

  pub lost : (x : Entry K) (old new : List (Entry K)) (gone kept : Option (Entry K)) → gone ≡ Some x → is_entry R kept x ≡ false → new ≡ without (entry_cmp R) self x old → Loses R gone kept old new
  lost x old new gone kept was other is e =
      removed R o x gone kept e (is_in R e old) (is_in R e new) was other
      (ap (λ es. is_in R e es) is ∙ in_has e (without (entry_cmp R) self x old)
      ∙ ap (λ r. is_some r) (row_of-without (entry_cmp R) self (entries_total R o) e x old)
      ∙ away (is_eq (entry_cmp R e x)) (row_of (entry_cmp R) self e old)
      ∙ ap (λ b. cond (is_eq (entry_cmp R e x)) false b) (sym (in_has e old))
      ∙ ap (λ b. cond b false (is_in R e old)) (ap is_eq ((entries_total R o).antisymm e x) ∙ tie_reversed (entry_cmp R x e)))
    where
      away : (b : Bool) (r : Option (Entry K)) → is_some (cond b None r) ≡ cond b false (is_some r)
      away true r = refl
      away false r = refl

  pub gains_grow : (more had : Option (Entry K)) (s n : List (Entry K)) → Gains R more had s n → Grows R s n
  gains_grow more had s n add e h = add e ∙ more_or (is_entry R more e && not (is_entry R had e)) (is_in R e s) h
    where
      more_or : (b c : Bool) → c ≡ true → cond b true c ≡ true
      more_or true c h = refl
      more_or false c h = h

  pub loses_keep : (old kept : Option (Entry K)) (s n : List (Entry K)) → Loses R old kept s n → Keeps R old kept s n
  loses_keep old kept s n less e other h = less e ∙ ap (λ b. cond b false (is_in R e s)) other ∙ h

  -- ---- rows that are covered

  pub none_covers : (key_of : Allocation → Option K) (s : List (Entry K)) → Covers R key_of [] s
  none_covers key_of s e h = absurd cc

  pub covers_grown : (key_of : Allocation → Option K) (rows : List Allocation) (s n : List (Entry K)) → Covers R key_of rows s → Grows R s n → Covers R key_of rows n
  covers_grown key_of rows s n was grow e h = grow e (was e h)

  module _ (key_of : Allocation → Option K) (a : Allocation) (rows : List Allocation) where
    abbrev new_entry : Option (Entry K)
    new_entry = entry_of key_of (Some a)

    abbrev old_entry : Option (Entry K)
    old_entry = entry_of key_of (row_of alloc_cmp alloc_id a.id rows)

    old_by : (k : Entry K) (r : Option Allocation) → row_of alloc_cmp alloc_id a.id rows ≡ r → is_entry R (entry_of key_of r) k ≡ true → is_eq (alloc_cmp k.id a.id) ≡ true
    old_by k None p h = absurd cc
    old_by k (Some b) p h = ap (λ i. is_eq (alloc_cmp k.id i)) (sym (row_found a.id b rows p)) ∙ own_id R o b (key_of b) k h

    entry_either : (b : Bool) (r : Option Allocation) (k : Entry K) → is_entry R (entry_of key_of (cond b (Some a) r)) k ≡ cond b (is_entry R new_entry k) (is_entry R (entry_of key_of r) k)
    entry_either true r k = refl
    entry_either false r k = refl

    -- an entry of the rows after the put is the new row's, or one of before that is not the old row's
    stays : (same new old now : Bool) → (old ≡ true → same ≡ true) → cond same new now ≡ true → (old && not new) ≡ false
    stays true true true now f h = refl
    stays true true false now f h = refl
    stays true false old now f h = absurd cc
    stays false true true now f h = refl
    stays false false true now f h = let never : false ≡ true = f refl in absurd cc
    stays false new false now f h = refl

    -- an entry of the old row is one of the rows'
    old_current : (k : Entry K) → is_entry R old_entry k ≡ true → is_current R key_of rows k ≡ true
    old_current k h = ap (λ i. is_entry R (entry_of key_of (row_of alloc_cmp alloc_id i rows)) k) (exact_ids k.id a.id (equal _ (truth _ (old_by k (row_of alloc_cmp alloc_id a.id rows) refl h)))) ∙ h

    here : (same new old now there : Bool) → (old ≡ true → there ≡ true) → (now ≡ true → there ≡ true) → cond same new now ≡ true → cond (new && not old) true there ≡ true
    here true true true now there f g h = f refl
    here true true false now there f g h = refl
    here true false old now there f g h = absurd cc
    here false true true now there f g h = f refl
    here false true false now there f g h = refl
    here false false old now there f g h = g h

    pub covers_put : (s m n : List (Entry K)) → Covers R key_of rows s → Gains R new_entry old_entry s m → Keeps R old_entry new_entry m n → Covers R key_of (put alloc_cmp alloc_id a rows) n
    covers_put s m n was add keep e h =
        let is : cond (is_eq (alloc_cmp e.id a.id)) (is_entry R new_entry e) (is_current R key_of rows e) ≡ true =
        sym (ap (λ r. is_entry R (entry_of key_of r) e) (row_of-put alloc_cmp alloc_id alloc_cmp_total e.id a rows) ∙ entry_either (is_eq (alloc_cmp e.id a.id)) (row_of alloc_cmp alloc_id e.id rows) e) ∙ h in
        keep e (stays (is_eq (alloc_cmp e.id a.id)) (is_entry R new_entry e) (is_entry R old_entry e) (is_current R key_of rows e) (old_by e (row_of alloc_cmp alloc_id a.id rows) refl) is)
        (add e ∙ here (is_eq (alloc_cmp e.id a.id)) (is_entry R new_entry e) (is_entry R old_entry e) (is_current R key_of rows e) (is_in R e s) (λ q. was e (old_current e q)) (was e) is)

  -- ---- the entries that are their rows'

  entry_tied : (z : Option (Entry K)) (e k : Entry K) → entry_cmp R e k ≡ Equal → is_entry R z e ≡ is_entry R z k
  entry_tied None e k tie = refl
  entry_tied (Some x) e k tie = ap is_eq (alike_right (entries_total R o) e k x tie)

  module _ (key_of : Allocation → Option K) (rows : List Allocation) where
    current_tied : (e k : Entry K) → entry_cmp R e k ≡ Equal → is_current R key_of rows e ≡ is_current R key_of rows k
    current_tied e k tie =
        entry_tied (entry_of key_of (row_of alloc_cmp alloc_id e.id rows)) e k tie
        ∙ ap (λ i. is_entry R (entry_of key_of (row_of alloc_cmp alloc_id i rows)) k) (exact_ids e.id k.id (then_ids R o (R e.key k.key) (alloc_cmp e.id k.id) tie))

    filtered_in : (f : Entry K → Bool) (e : Entry K) (es : List (Entry K)) → ((k : Entry K) → entry_cmp R e k ≡ Equal → f e ≡ f k) → is_in R e (filter f es) ≡ (f e && is_in R e es)
    filtered_in f e [] same = nothing (f e)
      where
        nothing : (b : Bool) → false ≡ (b && false)
        nothing true = refl
        nothing false = refl
    filtered_in f e (k ∷ es) same =
        let rest = filtered_in f e es same in
        elim (f k) as (λ b. f k ≡ b → is_in R e (cond b (k ∷ filter f es) (filter f es)) ≡ (f e && (is_eq (entry_cmp R e k) || is_in R e es))) [
          | true ↦ λ p. elim (is_eq (entry_cmp R e k)) as (λ t. is_eq (entry_cmp R e k) ≡ t → (t || is_in R e (filter f es)) ≡ (f e && (t || is_in R e es))) [
            | true ↦ λ t. sym (ap (λ b. b && true) (same k (equal _ (truth _ t)) ∙ p))
            | false ↦ λ t. rest
          ] refl
          | false ↦ λ p. elim (is_eq (entry_cmp R e k)) as (λ t. is_eq (entry_cmp R e k) ≡ t → is_in R e (filter f es) ≡ (f e && (t || is_in R e es))) [
            | true ↦ λ t. let none : f e ≡ false = same k (equal _ (truth _ t)) ∙ p in rest ∙ ap (λ b. b && is_in R e es) none ∙ sym (ap (λ b. b && true) none)
            | false ↦ λ t. rest
          ] refl
        ] refl

    -- they are the entries of the rows that are listed, and no other
    pub covers_exact : (es : List (Entry K)) → Covers R key_of rows es → AreIndexed R key_of rows (current R key_of rows es)
    covers_exact es was e = filtered_in (is_current R key_of rows) e es (current_tied e) ∙ only (is_current R key_of rows e) (is_in R e es) (was e)
      where
        only : (b c : Bool) → (b ≡ true → c ≡ true) → (b && c) ≡ b
        only true c f = f refl
        only false c f = refl

  pub current_next : (key_of : Allocation → Option K) (rows : List Allocation) (e : Entry K) (es : List (Entry K)) → is_current R key_of rows e ≡ true → current R key_of rows (e ∷ es) ≡ e ∷ current R key_of rows es
  current_next key_of rows e es h = ap (λ b. cond b (e ∷ current R key_of rows es) (current R key_of rows es)) h

  -- ---- order

  above_all : (e : Entry K) (es : List (Entry K)) → T (is_below (entry_cmp R) self e es) → AllByRecursion (λ f. entry_cmp R e f ≡ Less) es
  above_all e [] h = tt
  above_all e (x ∷ es) h = (less _ (first _ _ h), above_all e es (second _ _ h))

  all_kept : (P : Entry K → Type 0) (f : Entry K → Bool) (es : List (Entry K)) → AllByRecursion P es → AllByRecursion P (filter f es)
  all_kept P f [] h = tt
  all_kept P f (x ∷ es) h = elim (f x) as (λ b. AllByRecursion P (cond b (x ∷ filter f es) (filter f es))) [ true ↦ (h.0, all_kept P f es h.1) | false ↦ all_kept P f es h.1 ]

  pub some_sorted : (f : Entry K → Bool) (es : List (Entry K)) → T (is_rising (entry_cmp R) self es) → IsStrictlySortedBy (entry_cmp R) (filter f es)
  unfolding IsStrictlySortedBy
  some_sorted f [] h = tt
  some_sorted f (e ∷ es) h =
      elim (f e) as (λ b. IsStrictlySortedBy (entry_cmp R) (cond b (e ∷ filter f es) (filter f es))) [
        | true ↦ (all_kept (λ x. entry_cmp R e x ≡ Less) f es (above_all e es (first _ _ h)), some_sorted f es (second _ _ h))
        | false ↦ some_sorted f es (second _ _ h)
      ]

  -- ---- the entries of all rows, put in one walk

  -- the entries have that of each row that is listed, but for the rows that are left
  abbrev pub CoversBut : (Allocation → Option K) → List Allocation → List Allocation → List (Entry K) → Type 0
  CoversBut key_of left rows es = (e : Entry K) → is_current R key_of rows e ≡ true → (is_current R key_of left e || is_in R e es) ≡ true

  pub covers_begin : (key_of : Allocation → Option K) (rows : List Allocation) (es : List (Entry K)) → CoversBut key_of rows rows es
  covers_begin key_of rows es e h = ap (λ b. b || is_in R e es) h

  pub covers_step : (key_of : Allocation → Option K) (rows left : List Allocation) (a : Allocation) (old new : List (Entry K)) → CoversBut key_of (a ∷ left) rows old → Gains R (entry_of key_of (Some a)) None old new → CoversBut key_of left rows new
  covers_step key_of rows left a old new was gain e h =
      let add : is_in R e new ≡ cond (is_entry R (entry_of key_of (Some a)) e) true (is_in R e old) = gain e ∙ ap (λ b. cond b true (is_in R e old)) (always (is_entry R (entry_of key_of (Some a)) e)) in
      elim (is_eq (alloc_cmp e.id a.id)) as (λ b. (is_entry R (entry_of key_of (cond b (Some a) (row_of alloc_cmp alloc_id e.id left))) e || is_in R e old) ≡ true → (is_current R key_of left e || is_in R e new) ≡ true) [
        | true ↦ λ w. ap (λ b. is_current R key_of left e || b) (add ∙ one_of (is_entry R (entry_of key_of (Some a)) e) (is_in R e old) w) ∙ or_true (is_current R key_of left e)
        | false ↦ λ w. kept (is_current R key_of left e) (is_entry R (entry_of key_of (Some a)) e) (is_in R e old) (is_in R e new) add w
      ] (was e h)
    where
      always : (b : Bool) → (b && not false) ≡ b
      always true = refl
      always false = refl

      one_of : (b c : Bool) → (b || c) ≡ true → cond b true c ≡ true
      one_of true c h = refl
      one_of false c h = h

      kept : (l n c m : Bool) → m ≡ cond n true c → (l || c) ≡ true → (l || m) ≡ true
      kept true n c m p h = refl
      kept false true c m p h = p
      kept false false c m p h = p ∙ h

  pub covers_end : (key_of : Allocation → Option K) (rows : List Allocation) (es : List (Entry K)) → CoversBut key_of [] rows es → Covers R key_of rows es
  covers_end key_of rows es was e h = was e h
