-- A walk over the entries of an index from one to another, which passes over those that are not
-- their rows'.
use Rattle.std.proofs.Common.{◌≡◌, ◌≢◌, Bool, true, false, not, cond, ◌&&◌, T, List, [], ◌∷◌, Option, Some, None, refl, sym, ap, subst, ◌∙◌}
use Rattle.std.specs.Prelude.{filter, ◌||◌}
use Rattle.std.specs.List.{list_any, slice_get, AllByRecursion}
use Rattle.std.specs.declared.cmp.Ordering.{Ordering}
use Rattle.std.specs.declared.cmp.Ordering.TheVariants.{Less, Equal, Greater}
use Rattle.std.specs.Cmp.{IsTotalOrder, tied_itself}
use Rattle.std.specs.Ordering.{is_eq, is_le, is_lt, ordering_reverse}
use Rattle.rows.specs.declared.allocation.AllocId.{AllocId}
use Rattle.rows.specs.declared.allocation.Allocation.{Allocation}
use Rattle.rows.specs.Keys.{alloc_cmp}
use Rattle.rows.specs.Rising.{is_below, is_rising}
use Rattle.rows.proofs.KeyLaws.{alloc_cmp_total}
use Rattle.pages.specs.Rows.{rows_from}
use Rattle.fsm_tables.specs.declared.index.Entry.{Entry}
use Rattle.fsm_tables.specs.Inner.Index.{entry_cmp, is_current, current, is_within, entries_between}
use Rattle.fsm_tables.proofs.RowLaws.{first, second, less}
use Rattle.fsm_tables.proofs.Filters.{rising_filter}
use Rattle.fsm_tables.proofs.Entries.{entries_total}

module _ {K : Type 0} (R : K → K → Ordering) (o : IsTotalOrder R) (key_of : Allocation → Option K) (rows : List Allocation) (lo hi : Entry K) where
  abbrev self : Entry K → Entry K
  self e = e

  -- those that are listed and left
  abbrev pub listed : List (Entry K) → List (Entry K)
  listed es = entries_between R lo hi (current R key_of rows es)

  -- what is left of a walk from the first on
  pub record IsLeft (es : List (Entry K)) : Type 0 where
    pub rising : T (is_rising (entry_cmp R) self es)
    pub from : AllByRecursion (λ e. is_lt (entry_cmp R e lo) ≡ false) es

  not_true : (b : Bool) → not b ≡ true → b ≡ false
  not_true true h = absurd cc
  not_true false h = refl

  all_pass : (f : Entry K → Bool) (es : List (Entry K)) → AllByRecursion (λ e. f e ≡ true) (filter f es)
  all_pass f [] = tt
  all_pass f (e ∷ es) = elim (f e) as (λ b. f e ≡ b → AllByRecursion (λ x. f x ≡ true) (cond b (e ∷ filter f es) (filter f es))) [ true ↦ λ h. (h, all_pass f es) | false ↦ λ h. all_pass f es ] refl

  all_not : (es : List (Entry K)) → AllByRecursion (λ e. not (is_lt (entry_cmp R e lo)) ≡ true) es → AllByRecursion (λ e. is_lt (entry_cmp R e lo) ≡ false) es
  all_not [] h = tt
  all_not (e ∷ es) h = (not_true _ h.0, all_not es h.1)

  pub left_first : (es : List (Entry K)) → T (is_rising (entry_cmp R) self es) → IsLeft (rows_from (entry_cmp R) self lo es)
  left_first es h = record {
    rising = rising_filter (entry_cmp R) self (λ e. not (is_lt (entry_cmp R e lo))) es h;
    from = all_not (rows_from (entry_cmp R) self lo es) (all_pass (λ e. not (is_lt (entry_cmp R e lo))) es);
  }

  pub left_rest : (e : Entry K) (es : List (Entry K)) → IsLeft (e ∷ es) → IsLeft es
  left_rest e es h = record { rising = second _ _ h.rising; from = h.from.1 }

  -- what is before the first is not between
  le_or : (r : Ordering) → is_le r ≡ true → is_lt (ordering_reverse r) ≡ false
  le_or Less h = refl
  le_or Equal h = refl
  le_or Greater h = absurd cc

  both_true : (a b : Bool) → (a && b) ≡ true → a ≡ true
  both_true true b h = refl
  both_true false b h = absurd cc

  within_from : (e : Entry K) → is_within R lo hi e ≡ true → is_lt (entry_cmp R e lo) ≡ false
  within_from e h = ap is_lt ((entries_total R o).antisymm e lo) ∙ le_or (entry_cmp R lo e) (both_true _ _ h)

  pub listed_from : (es : List (Entry K)) → listed (rows_from (entry_cmp R) self lo es) ≡ listed es
  listed_from [] = refl
  listed_from (e ∷ es) =
      let rest = listed_from es in
      elim (is_lt (entry_cmp R e lo)) as (λ b. is_lt (entry_cmp R e lo) ≡ b → listed (cond (not b) (e ∷ rows_from (entry_cmp R) self lo es) (rows_from (entry_cmp R) self lo es)) ≡ listed (e ∷ es)) [
        | true ↦ λ p. rest ∙ skipped p
        | false ↦ λ p. elim (is_current R key_of rows e) as (λ c. filter (is_within R lo hi) (cond c (e ∷ current R key_of rows (rows_from (entry_cmp R) self lo es)) (current R key_of rows (rows_from (entry_cmp R) self lo es))) ≡ filter (is_within R lo hi) (cond c (e ∷ current R key_of rows es) (current R key_of rows es))) [
          | true ↦ ap (λ xs. cond (is_within R lo hi e) (e ∷ xs) xs) rest
          | false ↦ rest
        ]
      ] refl
    where
      skipped : is_lt (entry_cmp R e lo) ≡ true → listed es ≡ listed (e ∷ es)
      skipped p =
          elim (is_current R key_of rows e) as (λ c. listed es ≡ filter (is_within R lo hi) (cond c (e ∷ current R key_of rows es) (current R key_of rows es))) [
            | true ↦ elim (is_within R lo hi e) as (λ w. is_within R lo hi e ≡ w → listed es ≡ cond w (e ∷ listed es) (listed es)) [
              | true ↦ λ w. let never : true ≡ false = sym p ∙ within_from e w in absurd cc
              | false ↦ λ w. refl
            ] refl
            | false ↦ refl
          ]

  -- an entry from the first on that is not above the last is between
  gt_or : (r : Ordering) → is_lt r ≡ false → is_le (ordering_reverse r) ≡ true
  gt_or Less h = absurd cc
  gt_or Equal h = refl
  gt_or Greater h = refl

  pub is_between_them : (e : Entry K) → is_lt (entry_cmp R e lo) ≡ false → is_lt (entry_cmp R hi e) ≡ false → is_within R lo hi e ≡ true
  is_between_them e low high = ap (λ r. is_le r && not (is_lt (entry_cmp R hi e))) ((entries_total R o).antisymm lo e) ∙ ap (λ b. b && not (is_lt (entry_cmp R hi e))) (gt_or (entry_cmp R e lo) low) ∙ ap not high

  pub listed_next : (e : Entry K) (es : List (Entry K)) → is_current R key_of rows e ≡ true → is_within R lo hi e ≡ true → listed (e ∷ es) ≡ e ∷ listed es
  listed_next e es c w = ap (λ b. filter (is_within R lo hi) (cond b (e ∷ current R key_of rows es) (current R key_of rows es))) c ∙ ap (λ b. cond b (e ∷ listed es) (listed es)) w

  pub listed_skip : (e : Entry K) (es : List (Entry K)) → is_current R key_of rows e ≡ false → listed (e ∷ es) ≡ listed es
  listed_skip e es c = ap (λ b. filter (is_within R lo hi) (cond b (e ∷ current R key_of rows es) (current R key_of rows es))) c

  -- above the last nothing is
  outside : (e : Entry K) → is_lt (entry_cmp R hi e) ≡ true → is_within R lo hi e ≡ false
  outside e h = ap (λ b. is_le (entry_cmp R lo e) && not b) h ∙ never (is_le (entry_cmp R lo e))
    where
      never : (b : Bool) → (b && false) ≡ false
      never true = refl
      never false = refl

  none_listed : (es : List (Entry K)) → AllByRecursion (λ e. is_lt (entry_cmp R hi e) ≡ true) es → listed es ≡ []
  none_listed [] h = refl
  none_listed (e ∷ es) h =
      let rest = none_listed es h.1 in
      elim (is_current R key_of rows e) as (λ c. filter (is_within R lo hi) (cond c (e ∷ current R key_of rows es) (current R key_of rows es)) ≡ []) [
        | true ↦ ap (λ w. cond w (e ∷ listed es) (listed es)) (outside e h.0) ∙ rest
        | false ↦ rest
      ]

  is_less : (r : Ordering) → r ≡ Less → is_lt r ≡ true
  is_less r e = ap is_lt e

  lt_is : (r : Ordering) → is_lt r ≡ true → r ≡ Less
  lt_is r h = less r (subst T (sym h) tt)

  all_above : (e : Entry K) (es : List (Entry K)) → is_lt (entry_cmp R hi e) ≡ true → T (is_below (entry_cmp R) self e es) → AllByRecursion (λ x. is_lt (entry_cmp R hi x) ≡ true) es
  all_above e [] p h = tt
  all_above e (x ∷ es) p h = (is_less _ ((entries_total R o).trans hi e x (lt_is _ p) (less _ (first _ _ h))), all_above e es p (second _ _ h))

  pub listed_past : (e : Entry K) (es : List (Entry K)) → IsLeft (e ∷ es) → is_lt (entry_cmp R hi e) ≡ true → listed (e ∷ es) ≡ []
  listed_past e es h p = none_listed (e ∷ es) (p, all_above e es p (first _ _ h.rising))

  -- ---- the first of them, by the first entry from lo on

  pub none_here : (es : List (Entry K)) → None ≡ slice_get (rows_from (entry_cmp R) self lo es) 0 → listed es ≡ []
  none_here es h = sym (listed_from es) ∙ empty (rows_from (entry_cmp R) self lo es) h
    where
      empty : (zs : List (Entry K)) → None ≡ slice_get zs 0 → listed zs ≡ []
      empty [] n = refl
      empty (z ∷ zs) n = absurd cc

  same_first : (e z : Entry K) → Some e ≡ Some z → e ≡ z
  same_first e z h = cc

  pub past_here : (e : Entry K) (es : List (Entry K)) → T (is_rising (entry_cmp R) self es) → Some e ≡ slice_get (rows_from (entry_cmp R) self lo es) 0 → is_lt (entry_cmp R hi e) ≡ true → listed es ≡ []
  past_here e es up h above = sym (listed_from es) ∙ past (rows_from (entry_cmp R) self lo es) (left_first es up) h
    where
      past : (zs : List (Entry K)) → IsLeft zs → Some e ≡ slice_get zs 0 → listed zs ≡ []
      past [] l n = absurd cc
      past (z ∷ zs) l n = listed_past z zs l (subst (λ x. is_lt (entry_cmp R hi x) ≡ true) (same_first e z n) above)

  pub one_here : (e : Entry K) (es : List (Entry K)) → T (is_rising (entry_cmp R) self es) → Some e ≡ slice_get (rows_from (entry_cmp R) self lo es) 0 → is_lt (entry_cmp R hi e) ≡ false → is_current R key_of rows e ≡ true → slice_get (listed es) 0 ≡ Some e
  one_here e es up h below is = ap (λ zs. slice_get zs 0) (sym (listed_from es)) ∙ one (rows_from (entry_cmp R) self lo es) (left_first es up) h
    where
      one : (zs : List (Entry K)) → IsLeft zs → Some e ≡ slice_get zs 0 → slice_get (listed zs) 0 ≡ Some e
      one [] l n = absurd cc
      one (z ∷ zs) l n =
          let same = same_first e z n in
          ap (λ xs. slice_get xs 0) (listed_next z zs (subst (λ x. is_current R key_of rows x ≡ true) same is) (is_between_them z l.from.0 (subst (λ x. is_lt (entry_cmp R hi x) ≡ false) same below)))
          ∙ ap Some (sym same)

  -- ---- their ids

  -- the ids that were taken, and those that are left
  abbrev pub has_or : Bool → List (Entry K) → AllocId → Bool
  has_or now es i = now || list_any (λ (e : Entry K). is_eq (alloc_cmp e.id i)) es

  pub id_more : (i : AllocId) (e : Entry K) (es : List (Entry K)) (now new all : Bool) → has_or now (e ∷ es) i ≡ all → new ≡ cond (is_eq (alloc_cmp e.id i)) true now → has_or new es i ≡ all
  id_more i e es now new all h n = ap (λ b. has_or b es i) n ∙ regrouped (is_eq (alloc_cmp e.id i)) now (list_any (λ (e : Entry K). is_eq (alloc_cmp e.id i)) es) ∙ h
    where
      regrouped : (a b c : Bool) → (cond a true b || c) ≡ (b || (a || c))
      regrouped true true c = refl
      regrouped true false c = refl
      regrouped false b c = refl

  pub no_id_left : (i : AllocId) (es : List (Entry K)) (now all : Bool) → has_or now es i ≡ all → es ≡ [] → now ≡ all
  no_id_left i es now all h e = sym (or_false now) ∙ sym (ap (λ xs. has_or now xs i) e) ∙ h
    where
      or_false : (b : Bool) → (b || false) ≡ b
      or_false true = refl
      or_false false = refl

  -- where one is left, there are some
  pub some_between : (e : Entry K) (es all : List (Entry K)) (now : Bool) → has_or now (e ∷ es) e.id ≡ list_any (λ (k : Entry K). is_eq (alloc_cmp k.id e.id)) all → all ≢ []
  some_between e es all now h none =
      let one : has_or now (e ∷ es) e.id ≡ true = ap (λ r. now || (is_eq r || list_any (λ (k : Entry K). is_eq (alloc_cmp k.id e.id)) es)) (tied_itself alloc_cmp_total e.id) ∙ or_true now in
      let zero : has_or now (e ∷ es) e.id ≡ false = h ∙ ap (list_any (λ (k : Entry K). is_eq (alloc_cmp k.id e.id))) none in
      let never : true ≡ false = sym one ∙ zero in
      absurd cc
    where
      or_true : (b : Bool) → (b || true) ≡ true
      or_true true = refl
      or_true false = refl
