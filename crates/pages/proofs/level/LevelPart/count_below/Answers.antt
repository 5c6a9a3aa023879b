use Rattle.std.proofs.Common.{◌≡◌, ◌+◌, ◌≤◌, ◌<◌, ℕ, length, take, arith, ap, sym, ◌∙◌}
use Rattle.pages.specs.Inner.Below.{count_below}
use Rattle.pages.specs.Inner.Parts.{rows_of}
use Rattle.pages.specs.Inner.Slots.{slot_rows, slot_first}
use Rattle.pages.proofs.Below.{count-parts, count_within}
use Rattle.pages.proofs.level.LevelPart.count_below.Goals as goal

added : (a b m n : ℕ) → a ≡ m → b ≡ n → a + b ≡ m + n
added a b m n p q = omega (arith, p, q)

pub overflow_add-result : goal.overflow_add-result
overflow_add-result g c =
    let R = g.T.Key.Ord.cmp in
    let key = g.T.Row.key_of in
    let rows = g.C.Part.rows in
    let k = c.args.key.now in
    let slots = c.self.inside.slots.items in
    let leads = rw c.deref.ensures.value at c.seek-at.ensures in
    let all = count-parts R key g.met.T.Key.Ord.total slot_first (slot_rows rows) k slots c.seek-at.result c.index.result.now leads c.self.invariant.parted.apart in
    let front = c.count_before.ensures ∙ ap (λ zs. length (rows_of (slot_rows rows) (take c.seek-at.result zs))) c.deref-2.ensures.value in
    let here = c.count_below.ensures ∙ ap (λ z. count_below R key k (rows z)) c.deref-3.ensures ∙ ap (λ z. count_below R key k (slot_rows rows z)) c.index.ensures in
    let sum : c.count_before.result + c.count_below.result ≡ count_below R key k (rows_of (slot_rows rows) slots) = added _ _ _ _ front here ∙ sym all in
    let most : count_below R key k (rows_of (slot_rows rows) slots) ≤ length (rows_of (slot_rows rows) slots) = count_within R key g.met.T.Key.Ord.total slot_first (slot_rows rows) k (rows_of (slot_rows rows) slots) in
    let count : c.len-all.result ≡ length (rows_of (slot_rows rows) slots) = c.len-all.ensures ∙ ap length (sym c.self.view_is) in
    let fits : c.len-all.result < 18446744073709551616 = c.len-all.type_inv in
    omega (arith, sum, most, count, fits)

pub returns : goal.returns
returns g c =
    let R = g.T.Key.Ord.cmp in
    let key = g.T.Row.key_of in
    let rows = g.C.Part.rows in
    let k = c.args.key.now in
    let slots = c.self.inside.slots.items in
    let leads = rw c.deref.ensures.value at c.seek-at.ensures in
    let all = count-parts R key g.met.T.Key.Ord.total slot_first (slot_rows rows) k slots c.seek-at.result c.index.result.now leads c.self.invariant.parted.apart in
    let front = c.count_before.ensures ∙ ap (λ zs. length (rows_of (slot_rows rows) (take c.seek-at.result zs))) c.deref-2.ensures.value in
    let here = c.count_below.ensures ∙ ap (λ z. count_below R key k (rows z)) c.deref-3.ensures ∙ ap (λ z. count_below R key k (slot_rows rows z)) c.index.ensures in
    added _ _ _ _ front here ∙ sym all ∙ ap (count_below R key k) c.self.view_is
