-- Ids that are looked up by their order.
use Rattle.std.proofs.Common.{◌≡◌, ℕ, Bool, true, false, not, cond, ◌&&◌, ◌||◌, T, Option, Some, None, is_some, Result, Ok, Err, List, [], length, ◌∷◌, ◌++◌, refl, sym, ap, subst, ◌∙◌, arith}
use Rattle.std.specs.Prelude.{option_map, is_none, is_ok, if◌then◌else◌}
use denote.Ref.{Bor}
use Rattle.std.specs.List.{list_any}
use Rattle.std.specs.List.Sorted.{IsBinarySearchResult, IsSearchInRange}
use Rattle.std.specs.Ordering.{nat_cmp, ordering_then, is_eq}
use Rattle.std.specs.declared.cmp.Ordering.{Ordering}
use Rattle.std.specs.declared.cmp.Ordering.TheVariants.{Less, Equal, Greater}
use Rattle.std.proofs.lemmas.List.Folds.{list_any-append}
use Rattle.rows.specs.declared.allocation.AllocId.{AllocId}
use Rattle.rows.specs.declared.listing.ListedAllocation.{ListedAllocation}
use Rattle.rows.specs.Ids.{alloc_cmp}
use Rattle.rows.specs.Rising.{is_rising}
use Rattle.rows.specs.Listings.{AreListed, listed_id}
use Rattle.rows.proofs.RisingLaws.{keeps_rising}
use Rattle.rows.proofs.KeyLaws.{alloc_cmp_total}
use Rattle.fsm_tables.specs.Rows.{row_of, put}
use Rattle.fsm_tables.specs.ReservedTables.{without}
use Rattle.pages.specs.Positions.{PositionOf}
use Rattle.pages.proofs.Positions.{position_found}
use Rattle.fsm_tables.proofs.RowLaws.{row_of-put}
use Rattle.fsm_tables.proofs.ReservedTables.{row_of-without}
use Rattle.fsm_model.specs.Words.{same_alloc}
use Rattle.fsm_model.proofs.Keys.{at_number}
use Rattle.group_model.specs.Agents.{Ended, is_shown, ended_how}
use Rattle.client_agent.specs.declared.ids.IdRow.{IdRow}
use Rattle.client_agent.specs.Capacity.{AreDistinct}
use Rattle.client_agent.specs.Inner.Ends.{ended_row}
use Rattle.client_agent.specs.Inner.Ids.{row_id, lists_id, end_id, AreSet, AreEnds}
use Rattle.client_agent.proofs.Distinct.{turned, same_ids, last_alone}

two_keys : (r q : Ordering) → is_eq (ordering_then r q) ≡ (is_eq r && is_eq q)
two_keys Less q = refl
two_keys Equal q = refl
two_keys Greater q = refl

-- ids are the same where they compare alike
pub at_id : (a b : AllocId) → is_eq (alloc_cmp a b) ≡ same_alloc b a
at_id a b = two_keys (nat_cmp a.index b.index) (nat_cmp a.slot b.slot) ∙ (λ i. at_number a.index b.index i && at_number a.slot b.slot i)

here : (a b : AllocId) → is_eq (alloc_cmp a b) ≡ same_alloc a b
here a b = at_id a b ∙ turned b a

there_is : {A : Type 0} (b : Bool) (x : A) (o : Option A) → is_some (cond b (Some x) o) ≡ (b || is_some o)
there_is true x o = refl
there_is false x o = refl

there_is_not : {A : Type 0} (b : Bool) (o : Option A) → is_some (cond b None o) ≡ (not b && is_some o)
there_is_not true o = refl
there_is_not false o = refl

-- ---- sets

pub one_more : (id : AllocId) (rows : List IdRow) (other : AllocId) → lists_id (put alloc_cmp row_id (record { id = id }) rows) other ≡ (same_alloc other id || lists_id rows other)
one_more id rows other =
    let x : IdRow = record { id = id } in
    ap is_some (row_of-put alloc_cmp row_id alloc_cmp_total other x rows)
    ∙ there_is (is_eq (alloc_cmp other id)) x (row_of alloc_cmp row_id other rows)
    ∙ ap (λ b. b || lists_id rows other) (here other id)

pub one_less : (id : AllocId) (rows : List IdRow) (other : AllocId) → lists_id (without alloc_cmp row_id id rows) other ≡ (not (same_alloc other id) && lists_id rows other)
one_less id rows other =
    ap is_some (row_of-without alloc_cmp row_id alloc_cmp_total other id rows)
    ∙ there_is_not (is_eq (alloc_cmp other id)) (row_of alloc_cmp row_id other rows)
    ∙ ap (λ b. not b && lists_id rows other) (here other id)

-- ---- what was ever started

-- one more is started
pub set_more : (ids : List AllocId) (id : AllocId) (rows new : List IdRow) → AreSet ids rows → ((other : AllocId) → lists_id new other ≡ (same_alloc other id || lists_id rows other)) → AreSet (ids ++ id ∷ []) new
set_more ids id rows new set more other =
    more other
    ∙ ap (λ b. same_alloc other id || b) (set other)
    ∙ behind (same_alloc other id) (list_any (same_alloc other) ids)
    ∙ sym (list_any-append (same_alloc other) ids (id ∷ []))
  where
    behind : (a b : Bool) → (a || b) ≡ (b || (a || false))
    behind true true = refl
    behind true false = refl
    behind false true = refl
    behind false false = refl

-- the last one is forgotten
pub set_less : (ids : List AllocId) (id : AllocId) (rows new : List IdRow) → AreDistinct (ids ++ id ∷ []) → AreSet (ids ++ id ∷ []) rows → ((other : AllocId) → lists_id new other ≡ (not (same_alloc other id) && lists_id rows other)) → AreSet ids new
set_less ids id rows new distinct set less other =
    less other
    ∙ ap (λ b. not (same_alloc other id) && b) (set other ∙ list_any-append (same_alloc other) ids (id ∷ []))
    ∙ left (same_alloc other id) (list_any (same_alloc other) ids) (λ same. ap (λ (x : AllocId). list_any (same_alloc x) ids) (same_ids other id same) ∙ last_alone ids id distinct)
  where
    left : (a b : Bool) → (a ≡ true → b ≡ false) → (not a && (b || (a || false))) ≡ b
    left true b none = sym (none refl)
    left false true none = refl
    left false false none = refl

-- ---- what is listed

row_shown : (rows : List ListedAllocation) (id : AllocId) → is_some (row_of alloc_cmp listed_id id rows) ≡ is_shown rows id
row_shown [] id = refl
row_shown (r ∷ rows) id =
    there_is (is_eq (alloc_cmp id r.id)) r (row_of alloc_cmp listed_id id rows)
    ∙ (λ i. at_id id r.id i || row_shown rows id i)

-- what a search over the rising ids finds
pub shown_by_place : (rows : List ListedAllocation) (id : AllocId) (r : Result ℕ ℕ) → AreListed rows → IsSearchInRange r (length rows) →
    IsBinarySearchResult (λ (y : ListedAllocation). alloc_cmp y.id id) rows r → is_ok r ≡ is_shown rows id
shown_by_place rows id r listed bound position = of rows r (position_found alloc_cmp listed_id alloc_cmp_total id rows r rising bound position) ∙ row_shown rows id where
  rising : T (is_rising alloc_cmp listed_id rows)
  rising = subst T (sym listed.1 ∙ keeps_rising alloc_cmp alloc_cmp_total listed_id rows) tt

  of : (rows : List ListedAllocation) (r : Result ℕ ℕ) → PositionOf alloc_cmp listed_id id rows r → is_ok r ≡ is_some (row_of alloc_cmp listed_id id rows)
  of [] (Ok at) place = absurd (omega (arith, place.0))
  of (x ∷ xs) (Ok at) place = sym (ap is_some (place.1 x))
  of rows (Err at) place = sym (ap is_some place.1)

-- ---- what ended

-- of two ends the first
abbrev first_end : Option Bool → Option Bool → Option Bool
first_end None later = later
first_end (Some ok) later = Some ok

how_more : (ended : List Ended) (id : AllocId) (ok : Bool) (other : AllocId) → ended_how (ended ++ ended_row id ok ∷ []) other ≡ first_end (ended_how ended other) (if same_alloc id other then Some ok else None)
how_more [] id ok other = refl
how_more (e ∷ es) id ok other =
    elim (same_alloc e.id other) as (λ b. (if b then Some e.ok else ended_how (es ++ ended_row id ok ∷ []) other) ≡ first_end (if b then Some e.ok else ended_how es other) (if same_alloc id other then Some ok else None)) [
      | true ↦ refl
      | false ↦ how_more es id ok other
    ]

none_mapped : (o : Option Ended) → option_map (λ (e : Ended). e.ok) o ≡ None → is_none o ≡ true
none_mapped None e = refl
none_mapped (Some x) e = absurd cc

mapped_none : (o : Option Ended) → is_none o ≡ true → option_map (λ (e : Ended). e.ok) o ≡ None
mapped_none None e = refl
mapped_none (Some x) e = absurd cc

how_kept : (o : Option Bool) (b ok : Bool) → (b ≡ true → o ≡ None → ⊥) → o ≡ first_end o (if b then Some ok else None)
how_kept (Some x) b ok h = refl
how_kept None false ok h = refl
how_kept None true ok h = absurd (h refl refl)

how_made : (o : Option Bool) (b ok : Bool) → (b ≡ true → o ≡ None) → cond b (Some ok) o ≡ first_end o (if b then Some ok else None)
how_made o true ok h = ap (λ (x : Option Bool). first_end x (Some ok)) (sym (h refl))
how_made None false ok h = refl
how_made (Some x) false ok h = refl

mapped_cond : (b : Bool) (x : Ended) (o : Option Ended) → option_map (λ (e : Ended). e.ok) (cond b (Some x) o) ≡ cond b (Some x.ok) (option_map (λ (e : Ended). e.ok) o)
mapped_cond true x o = refl
mapped_cond false x o = refl

-- one that ended before ends again
pub ends_kept : (ended rows : List Ended) (id : AllocId) (ok : Bool) → AreEnds ended rows → is_none (row_of alloc_cmp end_id id rows) ≡ false → AreEnds (ended ++ ended_row id ok ∷ []) rows
ends_kept ended rows id ok ends there other =
    ends other
    ∙ how_kept (ended_how ended other) (same_alloc id other) ok
    (λ same none.
    let none_here = subst (λ (x : AllocId). option_map (λ (e : Ended). e.ok) (row_of alloc_cmp end_id x rows) ≡ None) (sym (same_ids id other same)) (ends other ∙ none) in
    absurd (both_ways (sym there ∙ none_mapped (row_of alloc_cmp end_id id rows) none_here)))
    ∙ sym (how_more ended id ok other)
  where
    both_ways : false ≡ true → ⊥
    both_ways e = cc

-- one ends for the first time
pub ends_more : (ended rows : List Ended) (id : AllocId) (ok : Bool) → AreEnds ended rows → is_none (row_of alloc_cmp end_id id rows) ≡ true → AreEnds (ended ++ ended_row id ok ∷ []) (put alloc_cmp end_id (ended_row id ok) rows)
ends_more ended rows id ok ends there other =
    ap (option_map (λ (e : Ended). e.ok)) (row_of-put alloc_cmp end_id alloc_cmp_total other (ended_row id ok) rows)
    ∙ mapped_cond (is_eq (alloc_cmp other id)) (ended_row id ok) (row_of alloc_cmp end_id other rows)
    ∙ (λ i. cond (at_id other id i) (Some ok) (ends other i))
    ∙ how_made (ended_how ended other) (same_alloc id other) ok
    (λ same. subst (λ (x : AllocId). ended_how ended x ≡ None) (same_ids id other same) (sym (ends id) ∙ mapped_none (row_of alloc_cmp end_id id rows) there))
    ∙ sym (how_more ended id ok other)

twice_not : (b : Bool) → not (not b) ≡ b
twice_not true = refl
twice_not false = refl

-- a row that is lent is there where it is
pub as_none : (lent : Option (Bor Ended)) (o : Option Ended) (answer : Bool) → option_map (λ (r : Bor Ended). r.now) lent ≡ o → is_some lent ≡ not answer → is_none o ≡ answer
as_none None o answer e says = ap is_none (sym e) ∙ ap not says ∙ twice_not answer
as_none (Some r) o answer e says = ap is_none (sym e) ∙ ap not says ∙ twice_not answer
