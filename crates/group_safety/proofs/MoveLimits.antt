-- The first of a list is in it; and the next moves off a node fit what the log takes.
use Rattle.std.proofs.Common.{◌≡◌, ℕ, ◌≤◌, Bool, true, false, cond, nat_lt, Some, None, List, [], ◌∷◌, length, map, take, refl, subst}
use Rattle.std.proofs.lemmas.Option.{same_Some}
use Rattle.std.specs.List.{AllByRecursion}
use Rattle.rows.specs.Fits.{AllocIdFits, AllocationFits, RisingIdsFit}
use Rattle.rows.specs.Keys.{alloc_id}
use Rattle.rows.specs.declared.node.DrainMode.{DrainMode}
use Rattle.rows.specs.declared.allocation.Allocation.{Allocation}
use Rattle.fsm_model.specs.Words.{State}
use Rattle.rows.specs.States.{IsState}
use Rattle.group_model.specs.Order as ordering
use Rattle.group_model.specs.Order.{Picked, pick, picked_one, or_head}
use Rattle.group_model.specs.Drains.{movers, moves_of}
use Rattle.group_model.proofs.Subs.{sub_take, sub_all}
use Rattle.group_model.proofs.NextMoves.{movers_are_some, moves_rise}

pub picked_of : {X : Type 0} (P : X → Type 0) (priority : X → ℕ) (xs : List X) (p : Picked X) → AllByRecursion P xs → pick priority xs ≡ Some p → P p.one × AllByRecursion P p.others
picked_of P priority [] p h e = absurd (cc)
picked_of P priority (x ∷ xs) p h e =
    elim (pick priority xs) as (λ o. pick priority xs ≡ o → Some (or_head priority x xs o) ≡ Some p → P p.one × AllByRecursion P p.others) [
      | None ↦ λ q g. moved (record { one = x; others = xs }) p g (h.0, h.1)
      | Some r ↦ λ q g. let i = picked_of P priority xs r h.1 q in by r i (nat_lt (priority x) (priority r.one)) g
    ] refl e
  where
    moved : (a b : Picked _) → Some a ≡ Some b → P a.one × AllByRecursion P a.others → P b.one × AllByRecursion P b.others
    moved a b g k = subst (λ v. P v.one × AllByRecursion P v.others) (same_Some a b g) k

    by : (r : Picked _) → P r.one × AllByRecursion P r.others → (b : Bool) → Some (cond b (record { one = r.one; others = x ∷ r.others }) (record { one = x; others = xs })) ≡ Some p → P p.one × AllByRecursion P p.others
    by r i true g = moved (record { one = r.one; others = x ∷ r.others }) p g (i.0, (h.0, i.1))
    by r i false g = moved (record { one = x; others = xs }) p g (h.0, h.1)

pub first_of : {X : Type 0} (P : X → Type 0) (priority : X → ℕ) (xs : List X) (x : X) → AllByRecursion P xs → ordering.first_by priority xs ≡ Some x → P x
first_of P priority xs x h e =
    elim (pick priority xs) as (λ o. pick priority xs ≡ o → picked_one priority o ≡ Some x → P x) [
      | None ↦ λ q g. absurd (cc)
      | Some p ↦ λ q g. subst P (same_Some p.one x g) (picked_of P priority xs p h q).0
    ] refl e

-- ---- moves

ids_fit : (rows : List Allocation) → AllByRecursion AllocationFits rows → AllByRecursion AllocIdFits (map alloc_id rows)
ids_fit [] h = tt
ids_fit (a ∷ rows) h = (h.0.0, ids_fit rows h.1)

pub moves_fit : (mode : DrainMode) (n : ℕ) (s : State) → IsState s → 1 ≤ length (moves_of mode n s) → RisingIdsFit (moves_of mode n s)
moves_fit mode n s is some =
    let rows = movers mode n s.allocs in
    let sub = movers_are_some mode n s.allocs in
    let few = moves_rise mode n s is.tables.allocs.rising in
    ((some, few.0, few.1), sub_all AllocIdFits (take 64 (map alloc_id rows)) (map alloc_id rows) (sub_take 64 (map alloc_id rows)) (ids_fit rows (sub_all AllocationFits rows s.allocs sub is.rows.allocs)))
