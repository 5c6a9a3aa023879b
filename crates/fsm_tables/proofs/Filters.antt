-- The rows of keys in rising order are the rows that pass a test, where the keys are those of the
-- rows that pass.
use Rattle.std.proofs.Common.{◌≡◌, ◌≢◌, true≢false, Bool, true, false, cond, T, List, [], ◌∷◌, Option, Some, None, refl, sym, ap, subst, ◌∙◌}
use Rattle.std.specs.Prelude.{filter, ◌||◌}
use Rattle.std.specs.Option.{option_and_then}
use Rattle.std.specs.List.{list_any, filter_map, slice_get, cons_option, AllByRecursion}
use Rattle.std.specs.List.Sorted.{IsStrictlySortedBy}
use Rattle.std.proofs.lemmas.Map.Keys.{sorted_head, sorted_tail}
use Rattle.std.proofs.lemmas.Map.Lookups.{CmpEqualImpliesEq, exact_unsigned, exact_pairs}
use Rattle.std.specs.declared.cmp.Ordering.{Ordering}
use Rattle.std.specs.declared.cmp.Ordering.TheVariants.{Less}
use Rattle.std.specs.BTreeMap.{is_at}
use Rattle.std.specs.Cmp.{IsTotalOrder, tied_itself}
use Rattle.std.specs.Ordering.{nat_cmp, is_eq, is_lt}
use Rattle.rows.specs.declared.allocation.AllocId.{AllocId}
use Rattle.rows.specs.declared.allocation.Allocation.{Allocation}
use Rattle.rows.specs.Keys.{alloc_cmp, alloc_id}
use Rattle.rows.proofs.KeyLaws.{alloc_cmp_total}
use Rattle.rows.specs.Rising.{is_below, is_rising}
use Rattle.fsm_tables.specs.Inner.Index.{rows_at, passes, AreIdsOf}
use Rattle.fsm_tables.specs.Rows.{row_of}
use Rattle.fsm_tables.proofs.RowLaws.{both, first, second, equal, none_below, below_tied, some_none, some_same}
use Rattle.fsm_tables.proofs.SetLaws.{same_rows}

-- ---- the rows that pass

abbrev kept_if : {X : Type 0} → (X → Bool) → Option X → Option X
kept_if test None = None
kept_if test (Some x) = cond (test x) (Some x) None

module _ {K X : Type 0} (R : K → K → Ordering) (key : X → K) (test : X → Bool) where
  pub below_filter : (k : K) (ys : List X) → T (is_below R key k ys) → T (is_below R key k (filter test ys))
  below_filter k [] h = tt
  below_filter k (y ∷ ys) h =
      elim (test y) as (λ b. T (is_below R key k (cond b (y ∷ filter test ys) (filter test ys)))) [
        | true ↦ both _ _ (first _ _ h) (below_filter k ys (second _ _ h))
        | false ↦ below_filter k ys (second _ _ h)
      ]

  pub rising_filter : (ys : List X) → T (is_rising R key ys) → T (is_rising R key (filter test ys))
  rising_filter [] h = tt
  rising_filter (y ∷ ys) h =
      elim (test y) as (λ b. T (is_rising R key (cond b (y ∷ filter test ys) (filter test ys)))) [
        | true ↦ both _ _ (below_filter (key y) ys (first _ _ h)) (rising_filter ys (second _ _ h))
        | false ↦ rising_filter ys (second _ _ h)
      ]

  row_of-filter : (o : IsTotalOrder R) (k : K) (ys : List X) → T (is_rising R key ys) → row_of R key k (filter test ys) ≡ kept_if test (row_of R key k ys)
  row_of-filter o k [] h = refl
  row_of-filter o k (y ∷ ys) h =
      let rest = row_of-filter o k ys (second _ _ h) in
      elim (is_eq (R k (key y))) as (λ t. is_eq (R k (key y)) ≡ t → row_of R key k (cond (test y) (y ∷ filter test ys) (filter test ys)) ≡ kept_if test (cond t (Some y) (row_of R key k ys))) [
        | true ↦ λ t.
            elim (test y) as (λ b. row_of R key k (cond b (y ∷ filter test ys) (filter test ys)) ≡ cond b (Some y) None) [
              | true ↦ ap (λ z. cond z (Some y) (row_of R key k (filter test ys))) t
              | false ↦ rest ∙ ap (kept_if test) (none_below R key o k ys (below_tied R key o k (key y) ys (equal _ (subst T (sym t) tt)) (first _ _ h)))
            ]
        | false ↦ λ t.
            elim (test y) as (λ b. row_of R key k (cond b (y ∷ filter test ys) (filter test ys)) ≡ kept_if test (row_of R key k ys)) [
              | true ↦ ap (λ z. cond z (Some y) (row_of R key k (filter test ys))) t ∙ rest
              | false ↦ rest
            ]
      ] refl

-- ---- the rows of keys

either : {A : Type 0} (b : Bool) (x : A) → x ≡ cond b x x
either true x = refl
either false x = refl

module _ {K X : Type 0} (R : K → K → Ordering) (key : X → K) (exact : CmpEqualImpliesEq R) where
  pub found_at : (k : K) (x : X) (ys : List X) → row_of R key k ys ≡ Some x → key x ≡ k
  found_at k x [] h = absurd (some_none x (sym h))
  found_at k x (y ∷ ys) h =
      elim (is_eq (R k (key y))) as (λ b. is_eq (R k (key y)) ≡ b → cond b (Some y) (row_of R key k ys) ≡ Some x → key x ≡ k) [
        | true ↦ λ t e. ap key (sym (some_same y x e)) ∙ sym (exact k (key y) (equal _ (subst T (sym t) tt)))
        | false ↦ λ t e. found_at k x ys e
      ] refl h

  module _ (o : IsTotalOrder R) (rows : List X) where
    abbrev rows_under : List K → List X
    rows_under ks = filter_map (λ k. row_of R key k rows) ks

    below_under : (k : K) (ks : List K) → AllByRecursion (λ j. R k j ≡ Less) ks → T (is_below R key k (rows_under ks))
    below_under k [] h = tt
    below_under k (j ∷ ks) h =
        elim (row_of R key j rows) as (λ r. row_of R key j rows ≡ r → T (is_below R key k (cons_option r (rows_under ks)))) [
          | None ↦ λ e. below_under k ks h.1
          | Some x ↦ λ e. both _ _ (subst (λ r. T (is_lt r)) (sym (ap (R k) (found_at j x rows e) ∙ h.0)) tt) (below_under k ks h.1)
        ] refl

    rising_under : (ks : List K) → IsStrictlySortedBy R ks → T (is_rising R key (rows_under ks))
    rising_under [] h = tt
    rising_under (j ∷ ks) h =
        let rest = rising_under ks (sorted_tail R j ks h) in
        elim (row_of R key j rows) as (λ r. row_of R key j rows ≡ r → T (is_rising R key (cons_option r (rows_under ks)))) [
          | None ↦ λ e. rest
          | Some x ↦ λ e. both _ _ (subst (λ k. T (is_below R key k (rows_under ks))) (sym (found_at j x rows e)) (below_under j ks (sorted_head R j ks h))) rest
        ] refl

    row_of-under : (q : K) (ks : List K) → row_of R key q (rows_under ks) ≡ cond (list_any (is_at (R q)) ks) (row_of R key q rows) None
    row_of-under q [] = refl
    row_of-under q (j ∷ ks) =
        let rest = row_of-under q ks in
        elim (is_eq (R q j)) as (λ t. is_eq (R q j) ≡ t → row_of R key q (cons_option (row_of R key j rows) (rows_under ks)) ≡ cond (t || list_any (is_at (R q)) ks) (row_of R key q rows) None) [
          | true ↦ λ t.
              let same : q ≡ j = exact q j (equal _ (subst T (sym t) tt)) in
              elim (row_of R key j rows) as (λ r. row_of R key j rows ≡ r → row_of R key q (cons_option r (rows_under ks)) ≡ row_of R key q rows) [
                | None ↦ λ e.
                    let none : row_of R key q rows ≡ None = ap (λ k. row_of R key k rows) same ∙ e in
                    rest ∙ ap (λ r. cond (list_any (is_at (R q)) ks) r None) none ∙ sym (either (list_any (is_at (R q)) ks) None) ∙ sym none
                | Some x ↦ λ e.
                    let tie : is_eq (R q (key x)) ≡ true = ap (λ k. is_eq (R q k)) (found_at j x rows e) ∙ t in
                    ap (λ b. cond b (Some x) (row_of R key q (rows_under ks))) tie ∙ sym e ∙ ap (λ k. row_of R key k rows) (sym same)
              ] refl
          | false ↦ λ t.
              elim (row_of R key j rows) as (λ r. row_of R key j rows ≡ r → row_of R key q (cons_option r (rows_under ks)) ≡ cond (list_any (is_at (R q)) ks) (row_of R key q rows) None) [
                | None ↦ λ e. rest
                | Some x ↦ λ e. ap (λ b. cond b (Some x) (row_of R key q (rows_under ks))) (ap (λ k. is_eq (R q k)) (found_at j x rows e) ∙ t) ∙ rest
              ] refl
        ] refl

    -- the keys are those of the rows that pass, and perhaps some of no row
    pub under_are_filtered : (test : X → Bool) (ks : List K) → T (is_rising R key rows) → IsStrictlySortedBy R ks → ((q : K) (x : X) → row_of R key q rows ≡ Some x → list_any (is_at (R q)) ks ≡ test x)
        → rows_under ks ≡ filter test rows
    under_are_filtered test ks rising sorted has =
        same_rows R key o (rows_under ks) (filter test rows) (rising_under ks sorted) (rising_filter R key test rows rising) (λ q.
        row_of-under q ks ∙ kept q (row_of R key q rows) refl ∙ sym (row_of-filter R key test o q rows rising))
      where
        kept : (q : K) (r : Option X) → row_of R key q rows ≡ r → cond (list_any (is_at (R q)) ks) r None ≡ kept_if test r
        kept q None e = sym (either (list_any (is_at (R q)) ks) None)
        kept q (Some x) e = ap (λ b. cond b (Some x) None) (has q x e)

-- ---- the rows of ids

pub exact_ids : CmpEqualImpliesEq alloc_cmp
exact_ids a b h = ap (λ p. record { index = p.0; slot = p.1 }) (exact_pairs nat_cmp nat_cmp exact_unsigned exact_unsigned (a.index, a.slot) (b.index, b.slot) h)

pub row_found : (i : AllocId) (a : Allocation) (rows : List Allocation) → row_of alloc_cmp alloc_id i rows ≡ Some a → a.id ≡ i
row_found i a rows h = found_at alloc_cmp alloc_id exact_ids i a rows h

module _ (rows : List Allocation) where
  pub rows_are_filtered : (test : Allocation → Bool) (ids : List AllocId) → T (is_rising alloc_cmp alloc_id rows) → IsStrictlySortedBy alloc_cmp ids → AreIdsOf test rows ids
      → rows_at rows ids ≡ filter test rows
  rows_are_filtered test ids rising sorted has = under_are_filtered alloc_cmp alloc_id exact_ids alloc_cmp_total rows test ids rising sorted (λ q x e. has q ∙ ap (passes test) e)

  -- the row of the first id is the first of them
  pub first_row : (test : Allocation → Bool) (ids : List AllocId) → AreIdsOf test rows ids → option_and_then (λ i. row_of alloc_cmp alloc_id i rows) (slice_get ids 0) ≡ slice_get (rows_at rows ids) 0
  first_row test [] has = refl
  first_row test (i ∷ ids) has =
      elim (row_of alloc_cmp alloc_id i rows) as (λ r. row_of alloc_cmp alloc_id i rows ≡ r → r ≡ slice_get (cons_option r (rows_at rows ids)) 0) [
        | None ↦ λ e.
            let one : true ≡ passes test (row_of alloc_cmp alloc_id i rows) = sym (ap (λ r. is_eq r || list_any (is_at (alloc_cmp i)) ids) (tied_itself alloc_cmp_total i)) ∙ has i in
            let none : passes test (row_of alloc_cmp alloc_id i rows) ≡ false = ap (passes test) e in
            absurd cc
        | Some a ↦ λ e. refl
      ] refl

  -- where the row of an id passes, some row does
  pub some_row : (test : Allocation → Bool) (i : AllocId) → passes test (row_of alloc_cmp alloc_id i rows) ≡ true → filter test rows ≢ []
  some_row test i h = some_under rows h
    where
      some_under : (ys : List Allocation) → passes test (row_of alloc_cmp alloc_id i ys) ≡ true → filter test ys ≢ []
      some_under [] h = absurd (true≢false (sym h))
      some_under (y ∷ ys) h =
          elim (test y) as (λ b. test y ≡ b → cond b (y ∷ filter test ys) (filter test ys) ≢ []) [
            | true ↦ λ t none. absurd cc
            | false ↦ λ t. elim (is_eq (alloc_cmp i y.id)) as (λ b. passes test (cond b (Some y) (row_of alloc_cmp alloc_id i ys)) ≡ true → filter test ys ≢ []) [
              | true ↦ λ own. absurd (true≢false (sym own ∙ t))
              | false ↦ some_under ys
            ] h
          ] refl
