-- Names are held once exactly where no two entries of the index by name are of one name.
use Rattle.std.proofs.Common.{◌≡◌, ℕ, Bool, true, false, cond, not, ◌&&◌, T, List, [], ◌∷◌, Option, Some, None, refl, sym, ap, subst, ◌∙◌, arith}
use Rattle.std.specs.Prelude.{◌||◌, bytes_eq, nat_eq}
use Rattle.std.specs.List.{list_any, AllByRecursion}
use Rattle.std.specs.List.Sorted.{IsStrictlySortedBy}
use Rattle.std.specs.declared.cmp.Ordering.{Ordering}
use Rattle.std.specs.declared.cmp.Ordering.TheVariants.{Less, Equal, Greater}
use Rattle.std.specs.BTreeMap.{is_at}
use Rattle.std.specs.Cmp.{IsTotalOrder, tied_itself, tied_back, both_ways}
use Rattle.std.specs.Cmp.Lexicographic.{nat_list_eq_equiv}
use Rattle.std.specs.Ordering.{is_eq, is_lt, ordering_then}
use Rattle.std.proofs.lemmas.Map.Keys.{sorted_head, sorted_tail}
use Rattle.rows.specs.declared.allocation.AllocId.{AllocId}
use Rattle.rows.specs.declared.allocation.Allocation.{Allocation}
use Rattle.rows.specs.Keys.{alloc_cmp, alloc_id}
use Rattle.rows.specs.Rising.{is_above, is_below, is_rising}
use Rattle.rows.proofs.KeyLaws.{alloc_cmp_total}
use Rattle.fsm_tables.specs.declared.index.Entry.{Entry}
use Rattle.fsm_tables.specs.declared.name.AllocName.{AllocName}
use Rattle.fsm_tables.specs.Rows.{row_of}
use Rattle.fsm_tables.specs.Claims.{Claim, claim_of, claims, is_live, same_name, are_distinct}
use Rattle.fsm_tables.specs.LiveNames.{name_of}
use Rattle.fsm_tables.specs.Inner.Index.{entry_cmp, entry_under, entry_of, is_entry, AreIndexed}
use Rattle.fsm_tables.specs.Inner.Keys.{alloc_name_cmp, live_name}
use Rattle.fsm_tables.proofs.RowLaws.{both, first, second, less, equal, none_below, below_less, below_tied, some_none, some_same}
use Rattle.fsm_tables.proofs.Filters.{exact_ids, row_found}
use Rattle.fsm_tables.proofs.SetLaws.{found_first}
use Rattle.fsm_tables.proofs.Entries.{entries_total, then_ids}
use Rattle.fsm_tables.proofs.Bounds.{names_total, called}

truth : (b : Bool) → b ≡ true → T b
truth b e = subst T (sym e) tt

passed : (b : Bool) → T b → b ≡ true
passed true p = refl
passed false p = absurd p

or_true : (b : Bool) → (b || true) ≡ true
or_true true = refl
or_true false = refl

-- ---- entries of one key

then_keys : (r s : Ordering) → ordering_then r s ≡ Equal → r ≡ Equal
then_keys Less s h = absurd cc
then_keys Equal s h = refl
then_keys Greater s h = absurd cc

module _ {K : Type 0} (R : K → K → Ordering) (o : IsTotalOrder R) where
  abbrev pub entry_key : Entry K → K
  entry_key e = e.key

  -- an entry is one of these
  abbrev pub IsIn : Entry K → List (Entry K) → Type 0
  IsIn e es = list_any (is_at (entry_cmp R e)) es ≡ true

  in_front : (e : Entry K) (es : List (Entry K)) → IsIn e (e ∷ es)
  in_front e es = ap (λ r. is_eq r || list_any (is_at (entry_cmp R e)) es) (tied_itself (entries_total R o) e)

  in_rest : (e x : Entry K) (es : List (Entry K)) → IsIn e es → IsIn e (x ∷ es)
  in_rest e x es p = ap (λ b. is_at (entry_cmp R e) x || b) p ∙ or_true (is_at (entry_cmp R e) x)

  -- those of one key are of one id
  abbrev pub AreApart : List (Entry K) → Type 0
  AreApart es = (e f : Entry K) → IsIn e es → IsIn f es → R e.key f.key ≡ Equal → e.id ≡ f.id

  row_of_tied : (j k : K) (es : List (Entry K)) → R j k ≡ Equal → row_of R entry_key j es ≡ row_of R entry_key k es
  row_of_tied j k [] t = refl
  row_of_tied j k (x ∷ es) t = λ i. cond (is_eq (o.congr j k x.key t i)) (Some x) (row_of_tied j k es t i)

  found_in : (e : Entry K) (es : List (Entry K)) → T (is_rising R entry_key es) → IsIn e es → (x : Entry K) × (row_of R entry_key e.key es ≡ Some x) × (e.id ≡ x.id)
  found_in e [] h p = absurd cc
  found_in e (x ∷ es) h p =
      elim (is_eq (entry_cmp R e x)) as (λ b. is_eq (entry_cmp R e x) ≡ b → (b || list_any (is_at (entry_cmp R e)) es) ≡ true → (y : Entry K) × (row_of R entry_key e.key (x ∷ es) ≡ Some y) × (e.id ≡ y.id)) [
        | true ↦ λ t q.
            let tie : entry_cmp R e x ≡ Equal = equal _ (truth _ t) in
            (x, ap (λ r. cond (is_eq r) (Some x) (row_of R entry_key e.key es)) (then_keys (R e.key x.key) (alloc_cmp e.id x.id) tie), exact_ids e.id x.id (then_ids R o (R e.key x.key) (alloc_cmp e.id x.id) tie))
        | false ↦ λ t q.
            let rest = found_in e es (second _ _ h) q in
            elim (is_eq (R e.key x.key)) as (λ b. is_eq (R e.key x.key) ≡ b → (y : Entry K) × (cond b (Some x) (row_of R entry_key e.key es) ≡ Some y) × (e.id ≡ y.id)) [
              | true ↦ λ u. absurd (some_none rest.0 (sym rest.1 ∙ none_below R entry_key o e.key es (below_tied R entry_key o e.key x.key es (equal _ (truth _ u)) (first _ _ h))))
              | false ↦ λ u. rest
            ] refl
      ] refl p

  pub rising_apart : (es : List (Entry K)) → T (is_rising R entry_key es) → AreApart es
  rising_apart es h e f p q tie =
      let x = found_in e es h p in
      let y = found_in f es h q in
      x.2 ∙ ap (λ (z : Entry K). z.id) (some_same x.0 y.0 (sym x.1 ∙ row_of_tied e.key f.key es tie ∙ y.1)) ∙ sym y.2

  apart_below : (e : Entry K) (es : List (Entry K)) → AllByRecursion (λ f. entry_cmp R e f ≡ Less) es → ((f : Entry K) → IsIn f es → R e.key f.key ≡ Equal → e.id ≡ f.id) → T (is_below R entry_key e.key es)
  apart_below e [] less apart = tt
  apart_below e (x ∷ es) less apart = both _ _ (by (R e.key x.key) refl) (apart_below e es less.1 (λ f p. apart f (in_rest f x es p))) where
    by : (r : Ordering) → R e.key x.key ≡ r → T (is_lt r)
    by Less t = tt
    by Equal t =
        let same : alloc_cmp e.id x.id ≡ Equal = ap (λ i. alloc_cmp i x.id) (apart x (in_front x es) t) ∙ tied_itself alloc_cmp_total x.id in
        let never : Less ≡ Equal = sym less.0 ∙ (λ i. ordering_then (t i) (same i)) in
        absurd cc
    by Greater t =
        let never : Less ≡ Greater = sym less.0 ∙ ap (λ r. ordering_then r (alloc_cmp e.id x.id)) t in
        absurd cc

  pub apart_rising : (es : List (Entry K)) → IsStrictlySortedBy (entry_cmp R) es → AreApart es → T (is_rising R entry_key es)
  apart_rising [] sorted apart = tt
  apart_rising (e ∷ es) sorted apart = both _ _
      (apart_below e es (sorted_head (entry_cmp R) e es sorted) (λ f p. apart e f (in_front e es) (in_rest f e es p)))
      (apart_rising es (sorted_tail (entry_cmp R) e es sorted) (λ f g p q. apart f g (in_rest f e es p) (in_rest g e es q)))

  -- entries above the last one before them, if there is one
  abbrev pub are_above : Option (Entry K) → List (Entry K) → Bool
  are_above None es = true
  are_above (Some e) es = is_below R entry_key e.key es

  next_above : (lt below rest more : Bool) → lt ≡ true → (rest ≡ true → below ≡ true) → (rest && more) ≡ ((lt && below) && (rest && more))
  next_above lt below true more e f = λ i. (sym e i && sym (f refl) i) && (true && more)
  next_above lt below false more e f = sym (never (lt && below)) where
    never : (b : Bool) → (b && false) ≡ false
    never true = refl
    never false = refl

  -- of keys that rise from one to the next all rise
  pub walked : (last : Option (Entry K)) (e : Entry K) (es : List (Entry K)) (all : Bool) → (are_above last (e ∷ es) && is_rising R entry_key (e ∷ es)) ≡ all → is_above R entry_key last e.key ≡ true
      → (are_above (Some e) es && is_rising R entry_key es) ≡ all
  walked None e es all is up = is
  walked (Some d) e es all is up =
      next_above (is_lt (R d.key e.key)) (is_below R entry_key d.key es) (is_below R entry_key e.key es) (is_rising R entry_key es) up (λ h. passed _ (below_less R entry_key o d.key e.key es (less _ (truth _ up)) (truth _ h))) ∙ is

-- ---- live rows of one name

-- two rows are live, and of one name
abbrev pub AreNamesakes : Allocation → Allocation → Type 0
AreNamesakes a b = (is_live a ≡ true) × (is_live b ≡ true) × (same_name (claim_of a) (claim_of b) ≡ true)

-- rows of one name are of one id
abbrev pub AreOnce : List Allocation → Type 0
AreOnce rows = (i j : AllocId) (a b : Allocation) → row_of alloc_cmp alloc_id i rows ≡ Some a → row_of alloc_cmp alloc_id j rows ≡ Some b → AreNamesakes a b → a.id ≡ b.id

bytes_turned : (a b : List ℕ) → bytes_eq a b ≡ bytes_eq b a
bytes_turned a b = nat_list_eq_equiv.symm a b

turned_name : (c d : Claim) → same_name c d ≡ same_name d c
turned_name c d = λ i. bytes_turned c.job d.job i && bytes_turned c.group d.group i && turned c.index d.index i where
  turned : (m n : ℕ) → nat_eq m n ≡ nat_eq n m
  turned m n = grind arith

claimed : (q : Claim → Bool) (j : AllocId) (b : Allocation) (rows : List Allocation) → row_of alloc_cmp alloc_id j rows ≡ Some b → is_live b ≡ true → q (claim_of b) ≡ true → list_any q (claims rows) ≡ true
claimed q j b [] e l h = absurd (some_none b (sym e))
claimed q j b (c ∷ rows) e l h =
    elim (is_eq (alloc_cmp j c.id)) as (λ t. cond t (Some c) (row_of alloc_cmp alloc_id j rows) ≡ Some b → list_any q (claims (c ∷ rows)) ≡ true) [
      | true ↦ λ e.
          let here : c ≡ b = some_same c b e in
          ap (λ z. list_any q (cond (is_live z) (claim_of z ∷ claims rows) (claims rows))) here
          ∙ ap (λ z. list_any q (cond z (claim_of b ∷ claims rows) (claims rows))) l
          ∙ ap (λ z. z || list_any q (claims rows)) h
      | false ↦ λ e.
          let rest = claimed q j b rows e l h in
          elim (is_live c) as (λ z. list_any q (cond z (claim_of c ∷ claims rows) (claims rows)) ≡ true) [
            | true ↦ ap (λ z. q (claim_of c) || z) rest ∙ or_true (q (claim_of c))
            | false ↦ rest
          ]
    ] e

never_claimed : (c : Allocation) (rows : List Allocation) (j : AllocId) (b : Allocation) → T (are_distinct (claims (c ∷ rows))) → row_of alloc_cmp alloc_id j rows ≡ Some b → AreNamesakes c b → ⊥
never_claimed c rows j b h e n =
    let any = claimed (same_name (claim_of c)) j b rows e n.1 n.2 in
    let two : T (are_distinct (claim_of c ∷ claims rows)) = subst (λ z. T (are_distinct (cond z (claim_of c ∷ claims rows) (claims rows)))) n.0 h in
    subst (λ z. T (not z && are_distinct (claims rows))) any two

rest_distinct : (c : Allocation) (rows : List Allocation) → T (are_distinct (claims (c ∷ rows))) → T (are_distinct (claims rows))
rest_distinct c rows h = elim (is_live c) as (λ z. T (are_distinct (cond z (claim_of c ∷ claims rows) (claims rows))) → T (are_distinct (claims rows))) [
  | true ↦ λ h. second _ _ h
  | false ↦ λ h. h
] h

pub distinct_once : (rows : List Allocation) → T (are_distinct (claims rows)) → AreOnce rows
distinct_once [] h i j a b p q n = absurd (some_none a (sym p))
distinct_once (c ∷ rows) h i j a b p q n =
    elim (is_eq (alloc_cmp i c.id)) as (λ s. cond s (Some c) (row_of alloc_cmp alloc_id i rows) ≡ Some a → a.id ≡ b.id) [
      | true ↦ λ p. elim (is_eq (alloc_cmp j c.id)) as (λ t. cond t (Some c) (row_of alloc_cmp alloc_id j rows) ≡ Some b → a.id ≡ b.id) [
        | true ↦ λ q. ap alloc_id (sym (some_same c a p) ∙ some_same c b q)
        | false ↦ λ q. absurd (never_claimed c rows j b h q (subst (λ z. AreNamesakes z b) (sym (some_same c a p)) n))
      ] q
      | false ↦ λ p. elim (is_eq (alloc_cmp j c.id)) as (λ t. cond t (Some c) (row_of alloc_cmp alloc_id j rows) ≡ Some b → a.id ≡ b.id) [
        | true ↦ λ q. absurd (never_claimed c rows i a h p (subst (λ z. AreNamesakes z a) (sym (some_same c b q)) (n.1, n.0, turned_name (claim_of b) (claim_of a) ∙ n.2)))
        | false ↦ λ q. distinct_once rows (rest_distinct c rows h) i j a b p q n
      ] q
    ] p

-- a row behind the first is found as it is behind it
found_behind : (c : Allocation) (rows : List Allocation) (i : AllocId) (a : Allocation) → T (is_below alloc_cmp alloc_id c.id rows) → row_of alloc_cmp alloc_id i rows ≡ Some a → row_of alloc_cmp alloc_id i (c ∷ rows) ≡ Some a
found_behind c rows i a h e = elim (is_eq (alloc_cmp i c.id)) as (λ t. is_eq (alloc_cmp i c.id) ≡ t → cond t (Some c) (row_of alloc_cmp alloc_id i rows) ≡ Some a) [
  | true ↦ λ t. absurd (some_none a (sym e ∙ none_below alloc_cmp alloc_id alloc_cmp_total i rows (below_tied alloc_cmp alloc_id alloc_cmp_total i c.id rows (equal _ (truth _ t)) h)))
  | false ↦ λ t. e
] refl

-- the live row of a claim that passes
abbrev Claimant : (Claim → Bool) → List Allocation → Type 0
Claimant q rows = (b : Allocation) × (row_of alloc_cmp alloc_id b.id rows ≡ Some b) × (is_live b ≡ true) × (q (claim_of b) ≡ true)

claimant : (q : Claim → Bool) (rows : List Allocation) → T (is_rising alloc_cmp alloc_id rows) → list_any q (claims rows) ≡ true → Claimant q rows
claimant q [] h e = absurd cc
claimant q (c ∷ rows) h e =
    let behind : list_any q (claims rows) ≡ true → Claimant q (c ∷ rows) = λ e. let r = claimant q rows (second _ _ h) e in (r.0, found_behind c rows r.0.id r.0 (first _ _ h) r.1, r.2, r.3) in
    elim (is_live c) as (λ z. is_live c ≡ z → list_any q (cond z (claim_of c ∷ claims rows) (claims rows)) ≡ true → Claimant q (c ∷ rows)) [
      | true ↦ λ l e. elim (q (claim_of c)) as (λ z. q (claim_of c) ≡ z → (z || list_any q (claims rows)) ≡ true → Claimant q (c ∷ rows)) [
        | true ↦ λ p e. (c, found_first alloc_cmp alloc_id alloc_cmp_total c rows, l, p)
        | false ↦ λ p e. behind e
      ] refl e
      | false ↦ λ l e. behind e
    ] refl e

pub once_distinct : (rows : List Allocation) → T (is_rising alloc_cmp alloc_id rows) → AreOnce rows → T (are_distinct (claims rows))
once_distinct [] h once = tt
once_distinct (c ∷ rows) h once =
    let rest : T (are_distinct (claims rows)) = once_distinct rows (second _ _ h) (λ i j a b p q. once i j a b (found_behind c rows i a (first _ _ h) p) (found_behind c rows j b (first _ _ h) q)) in
    elim (is_live c) as (λ z. is_live c ≡ z → T (are_distinct (cond z (claim_of c ∷ claims rows) (claims rows)))) [
      | true ↦ λ l. both _ _ (elim (list_any (same_name (claim_of c)) (claims rows)) as (λ z. list_any (same_name (claim_of c)) (claims rows) ≡ z → T (not z)) [
        | true ↦ λ e.
            let r = claimant (same_name (claim_of c)) rows (second _ _ h) e in
            let same : c.id ≡ r.0.id = once c.id r.0.id c r.0 (found_first alloc_cmp alloc_id alloc_cmp_total c rows) (found_behind c rows r.0.id r.0 (first _ _ h) r.1) (l, r.2, r.3) in
            absurd (some_none r.0 (sym r.1 ∙ ap (λ i. row_of alloc_cmp alloc_id i rows) (sym same) ∙ none_below alloc_cmp alloc_id alloc_cmp_total c.id rows (first _ _ h)))
        | false ↦ λ e. tt
      ] refl) rest
      | false ↦ λ l. rest
    ] refl

-- ---- the index by name

module _ (rows : List Allocation) (names : List (Entry AllocName)) (was : AreIndexed alloc_name_cmp live_name rows names) where
  -- a live row's entry
  abbrev own : Allocation → Entry AllocName
  own a = record { key = name_of a; id = a.id }

  has_own : (i : AllocId) (a : Allocation) → row_of alloc_cmp alloc_id i rows ≡ Some a → is_live a ≡ true → IsIn alloc_name_cmp names_total (own a) names
  has_own i a e l =
      was (own a) ∙ ap (λ r. is_entry alloc_name_cmp (entry_of live_name r) (own a)) (ap (λ j. row_of alloc_cmp alloc_id j rows) (row_found i a rows e) ∙ e)
      ∙ ap (λ z. is_entry alloc_name_cmp (entry_under a.id (cond z (Some (name_of a)) None)) (own a)) l
      ∙ ap is_eq (tied_itself (entries_total alloc_name_cmp names_total) (own a))

  -- the live row of an entry
  abbrev Owner : Entry AllocName → Type 0
  Owner e = (a : Allocation) × (row_of alloc_cmp alloc_id e.id rows ≡ Some a) × (is_live a ≡ true) × (alloc_name_cmp (name_of a) e.key ≡ Equal)

  owner_by : (e : Entry AllocName) (r : Option Allocation) → row_of alloc_cmp alloc_id e.id rows ≡ r → is_entry alloc_name_cmp (entry_of live_name r) e ≡ true → Owner e
  owner_by e None p h = absurd cc
  owner_by e (Some a) p h = elim (is_live a) as (λ z. is_live a ≡ z → is_entry alloc_name_cmp (entry_under a.id (cond z (Some (name_of a)) None)) e ≡ true → Owner e) [
    | true ↦ λ l h. (a, p, l, then_keys (alloc_name_cmp (name_of a) e.key) (alloc_cmp a.id e.id) (equal _ (truth _ h)))
    | false ↦ λ l h. absurd cc
  ] refl h

  owner : (e : Entry AllocName) → IsIn alloc_name_cmp names_total e names → Owner e
  owner e p = owner_by e (row_of alloc_cmp alloc_id e.id rows) refl (sym (was e) ∙ p)

  once_by : T (is_rising alloc_cmp alloc_id rows) → T (is_rising alloc_name_cmp (λ (e : Entry AllocName). e.key) names) → AreOnce rows
  once_by rising h i j a b p q n =
      let tie = tied_back names_total (name_of b) (name_of a) (equal _ (truth _ (called (name_of b) a ∙ n.2))) in
      rising_apart alloc_name_cmp names_total names h (own a) (own b) (has_own i a p n.0) (has_own j b q n.1) tie

  apart_by : T (are_distinct (claims rows)) → AreApart alloc_name_cmp names_total names
  apart_by h e f p q tie =
      let a = owner e p in
      let b = owner f q in
      let back : alloc_name_cmp f.key (name_of a.0) ≡ Equal = tied_back names_total (name_of a.0) f.key (names_total.congr (name_of a.0) e.key f.key a.3 ∙ tie) in
      let same : alloc_name_cmp (name_of b.0) (name_of a.0) ≡ Equal = names_total.congr (name_of b.0) f.key (name_of a.0) b.3 ∙ back in
      let name : same_name (claim_of a.0) (claim_of b.0) ≡ true = sym (called (name_of b.0) a.0) ∙ ap is_eq same in
      sym (row_found e.id a.0 rows a.1) ∙ distinct_once rows h e.id f.id a.0 b.0 a.1 b.1 (a.2, b.2, name) ∙ row_found f.id b.0 rows b.1

  pub named_once_is : T (is_rising alloc_cmp alloc_id rows) → IsStrictlySortedBy (entry_cmp alloc_name_cmp) names → is_rising alloc_name_cmp (λ (e : Entry AllocName). e.key) names ≡ are_distinct (claims rows)
  named_once_is rising sorted = both_ways _ _
      (λ h. passed _ (once_distinct rows rising (once_by rising (truth _ h))))
      (λ h. passed _ (apart_rising alloc_name_cmp names_total names sorted (apart_by (truth _ h))))
