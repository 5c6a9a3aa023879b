use Rattle.std.proofs.Common.{◌≡◌, ◌+◌, ◌-◌, ℕ, suc, ap, sym, arith, List, length, take, drop, get_or, ◌∙◌}
use Rattle.std.proofs.lemmas.List.{take_all, length-drop}
use Rattle.std.specs.Prelude.{option_map}
use Rattle.std.specs.List.{slice_get}
use Rattle.pages.specs.Rows.{rows_from}
use Rattle.pages.specs.Inner.Parts.{rows_of}
use Rattle.pages.specs.Inner.Slots.{slot_rows, slot_first}
use Rattle.pages.proofs.Below.{from-parts, first_here, first_behind}
use Rattle.pages.proofs.level.LevelPart.first_from.Goals as goal

-- the items behind a place, as a slice has them
behind_place : {S : Type 0} (xs : List S) (at : ℕ) → take (length xs - (at + 1)) (drop (at + 1) xs) ≡ drop (suc at) xs
behind_place xs at =
    let next : at + 1 ≡ suc at = omega arith in
    let size = length-drop (at + 1) xs in
    take_all (length xs - (at + 1)) (drop (at + 1) xs) (omega (arith, size)) ∙ ap (λ n. drop n xs) next

pub returns-in-Some : goal.returns-in-Some
returns-in-Some g c =
    let R = g.T.Key.Ord.cmp in
    let key = g.T.Row.key_of in
    let rows = g.C.Part.rows in
    let k = c.args.key.now in
    let slots = c.self.inside.slots.items in
    let at = c.seek-at.result in
    let here = rows_from R key k (slot_rows rows (get_or slots at c.index.result.now)) in
    let behind = rows_of (slot_rows rows) (drop (suc at) slots) in
    let leads = rw c.deref.ensures.value at c.seek-at.ensures in
    let all = from-parts R key g.met.T.Key.Ord.total slot_first (slot_rows rows) k slots at c.index.result.now leads c.self.invariant.parted.apart in
    let first = c.first_from.ensures ∙ ap (λ z. slice_get (rows_from R key k (rows z)) 0) c.deref-2.ensures ∙ ap (λ z. slice_get (rows_from R key k (slot_rows rows z)) 0) c.index.ensures in
    first_here R key g.met.T.Key.Ord.total here behind c.in-Some.row.now (sym (ap (option_map (λ row. row.now)) c.in-Some.is) ∙ first)
    ∙ ap (λ xs. slice_get xs 0) (sym all) ∙ ap (λ xs. slice_get (rows_from R key k xs) 0) c.self.view_is

pub returns-in-None : goal.returns-in-None
returns-in-None g c =
    let R = g.T.Key.Ord.cmp in
    let key = g.T.Row.key_of in
    let rows = g.C.Part.rows in
    let k = c.args.key.now in
    let slots = c.self.inside.slots.items in
    let at = c.seek-at.result in
    let here = rows_from R key k (slot_rows rows (get_or slots at c.index.result.now)) in
    let behind = rows_of (slot_rows rows) (drop (suc at) slots) in
    let leads = rw c.deref.ensures.value at c.seek-at.ensures in
    let all = from-parts R key g.met.T.Key.Ord.total slot_first (slot_rows rows) k slots at c.index.result.now leads c.self.invariant.parted.apart in
    let first = c.first_from.ensures ∙ ap (λ z. slice_get (rows_from R key k (rows z)) 0) c.deref-2.ensures ∙ ap (λ z. slice_get (rows_from R key k (slot_rows rows z)) 0) c.index.ensures in
    let others = c.first_row.ensures ∙ ap (λ xs. slice_get (rows_of (slot_rows rows) (take (length xs - (at + 1)) (drop (at + 1) xs))) 0) c.deref-in-None.ensures.value
    ∙ ap (λ xs. slice_get (rows_of (slot_rows rows) xs) 0) (behind_place slots at) in
    first_behind R key g.met.T.Key.Ord.total here behind (option_map (λ row. row.now) c.first_row.result) (sym (ap (option_map (λ row. row.now)) c.in-None.is) ∙ first) others
    ∙ ap (λ xs. slice_get xs 0) (sym all) ∙ ap (λ xs. slice_get (rows_from R key k xs) 0) c.self.view_is
