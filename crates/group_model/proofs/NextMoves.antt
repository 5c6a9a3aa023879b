-- The next moves off a node are ids of its state's table in rising order, at most 64.
use Rattle.std.proofs.Common.{◌≡◌, ℕ, ◌≤◌, true, false, cond, not, ◌&&◌, T, List, [], ◌∷◌, length, map, filter, take, refl, sym, ap, subst, ◌∙◌}
use Rattle.std.specs.List.{list_any}
use Rattle.std.specs.Ordering.{is_lt}
use Rattle.rows.specs.declared.node.DrainMode.{DrainMode}
use Rattle.rows.specs.declared.node.DrainMode.TheVariants as drains
use Rattle.rows.specs.declared.allocation.AllocId.{AllocId}
use Rattle.rows.specs.declared.allocation.Allocation.{Allocation}
use Rattle.rows.specs.Ids.{id_rises}
use Rattle.rows.specs.Keys.{alloc_cmp, alloc_id}
use Rattle.rows.specs.Rising.{keeps, is_below, is_rising}
use Rattle.rows.proofs.KeyLaws.{alloc_cmp_total}
use Rattle.rows.proofs.RisingLaws.{keeps_rising}
use Rattle.rows.proofs.Truth.{is_true}
use Rattle.fsm_tables.specs.Lookups.{lives_on}
use Rattle.fsm_model.specs.Words.{State}
use Rattle.group_model.specs.Drains.{same_group, group_moves, firsts, movers, moves_of}
use Rattle.group_model.proofs.Subs.{Sub, none, keep, skip, sub_filter, sub_take, sub_trans, sub_rising, take_length}

firsts_are_some : (seen rows : List Allocation) → Sub (firsts seen rows) rows
firsts_are_some seen [] = none
firsts_are_some seen (a ∷ rows) = elim (list_any (same_group a) seen) as (λ b. Sub (cond b (firsts seen rows) (a ∷ firsts (a ∷ seen) rows)) (a ∷ rows)) [ true ↦ skip a (firsts_are_some seen rows) | false ↦ keep a (firsts_are_some (a ∷ seen) rows) ]

slow_are_some : (n : ℕ) (rows : List Allocation) → Sub (movers drains.Slow n rows) rows
slow_are_some n rows =
    let test = λ (a : Allocation). lives_on n a && not (group_moves rows a) in
    sub_trans _ (filter test rows) rows (firsts_are_some [] _) (sub_filter test rows)

pub movers_are_some : (mode : DrainMode) (n : ℕ) (rows : List Allocation) → Sub (movers mode n rows) rows
movers_are_some drains.Force n rows = sub_filter (λ a. lives_on n a && not a.migrate) rows
movers_are_some drains.Off n rows = slow_are_some n rows
movers_are_some drains.Slow n rows = slow_are_some n rows

below_ids : (k : AllocId) (rows : List Allocation) → is_below alloc_cmp (λ a. a) k (map alloc_id rows) ≡ is_below alloc_cmp alloc_id k rows
below_ids k [] = refl
below_ids k (b ∷ rows) = ap (λ x. is_lt (alloc_cmp k b.id) && x) (below_ids k rows)

rising_ids : (rows : List Allocation) → is_rising alloc_cmp (λ a. a) (map alloc_id rows) ≡ is_rising alloc_cmp alloc_id rows
rising_ids [] = refl
rising_ids (a ∷ rows) = λ i. below_ids a.id rows i && rising_ids rows i

-- at most 64, in rising order
abbrev pub AreFewRising : List AllocId → Type 0
AreFewRising ids = (length ids ≤ 64) × (keeps id_rises [] ids ≡ true)

pub moves_rise : (mode : DrainMode) (n : ℕ) (s : State) → T (is_rising alloc_cmp alloc_id s.allocs) → AreFewRising (moves_of mode n s)
moves_rise mode n s rising =
    let rows = movers mode n s.allocs in
    let ids = map alloc_id rows in
    let all : T (is_rising alloc_cmp (λ a. a) ids) = subst T (sym (rising_ids rows)) (sub_rising alloc_cmp alloc_id rows s.allocs (movers_are_some mode n s.allocs) rising) in
    (take_length 64 ids, keeps_rising alloc_cmp alloc_cmp_total (λ a. a) (take 64 ids) ∙ is_true _ (sub_rising alloc_cmp (λ a. a) (take 64 ids) ids (sub_take 64 ids) all))
