use Rattle.std.proofs.Common.{◌≡◌, length, map, ap, sym, ◌∙◌, subst, rules}
use Rattle.std.specs.Prelude.{vec_len}
use Rattle.std.proofs.lemmas.List.{length-map}
use Rattle.event_book.specs.Seats.{actor_in}
use Rattle.cells.specs.Groups.{AreSeated, cell_actors, seat_in}
use Rattle.cells.specs.Opening.{MayOpenCells}
use Rattle.cells.proofs.cells.Cells.open.Goals as goal

pub invariant_of-result : goal.invariant_of-result
invariant_of-result g c =
    let n = c.args.n in
    let m = c.args.m in
    let all = g.B.BookId.actors in
    let cells = c.args.cells.items in
    let may : MayOpenCells n m all (map seat_in cells) =
    subst (λ l. MayOpenCells n m all (map seat_in l)) c.as_slice.ensures.value (subst (λ l. MayOpenCells n m l (map seat_in c.as_slice.result.now)) c.actors.ensures c.if-not-may_open.ensures) in
    let named : c.in_ok-actors.actors.items ≡ cell_actors cells = c.in_ok-actors.ensures ∙ ap cell_actors c.as_slice-2.ensures.value in
    let seated : AreSeated n m c.in_ok-actors.actors.items = subst (λ l. AreSeated n m l) (sym named) may.seated in
    let count : length cells ≡ length all = sym (length-map cells seat_in) ∙ may.count in
    let same : vec_len c.args.cells ≡ length all = search rules in
    let sized : length c.in_ok-actors.actors.items ≡ length cells = ap length named ∙ length-map (map seat_in cells) actor_in ∙ length-map cells seat_in in
    let counted : vec_len c.in_ok-actors.actors ≡ vec_len c.args.cells = search rules in
    (may.size, may.few, may.group, c.in_ok-cells.ensures ∙ same, seated, counted ∙ sym c.in_ok-cells.ensures)
