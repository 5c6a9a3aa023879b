use Rattle.std.proofs.Common.{◌≡◌, ◌++◌, ◌∷◌, [], length, ap, sym, ◌∙◌, subst, append_assoc}
use Rattle.std.specs.Vec.Iter.{into_iter_items}
use Rattle.rows.specs.declared.actor.Actor.{Actor}
use Rattle.cells.specs.Actors.{BeginsAs}
use Rattle.cells.specs.Opening.{AreNew, IsOfGroup}
use Rattle.cells.proofs.Members.{one_cell_more, one_seat_more, one_less}
use Rattle.cells.proofs.opening.new_cells.Goals as goal

pub loop-seat-preserved : goal.loop-seat-preserved
loop-seat-preserved g c =
    let at = c.loop-seat in
    let was = at.invariant in
    let steps = c.in-Some.ensures.steps in
    let n = c.args.n in
    let nodes = c.args.nodes.now in
    let seat = c.in-Some.seat in
    let cell = c.new.result in
    let is = ap (λ x. x.seat) c.new.ensures in
    let named : c.actor.result ≡ seat.actor = c.actor.ensures in
    let begun : BeginsAs n nodes seat.actor cell.actor = subst (λ (a : Actor). BeginsAs n nodes a cell.actor) named (subst (λ x. BeginsAs n nodes c.actor.result x) (sym (ap (λ x. x.actor) c.new.ensures)) c.in_ok-actor.ensures.ok) in
    let there = subst (λ (a : Actor). IsOfGroup n (length nodes) a) named c.in_ok-actor.ensures.there in (
      subst (λ l. AreNew n nodes l (at.yielded ++ seat ∷ [])) (sym c.in_ok-push.ensures.items) (one_cell_more n nodes at.cells.items at.yielded cell seat was.0 (record { seat_is = is; unused = c.if-has_noted.ensures; begins = begun })),
      one_seat_more n (length nodes) at.yielded seat was.1 (c.if-has_noted.ensures, there),
      append_assoc at.yielded (seat ∷ []) (into_iter_items c.next.new.self) ∙ ap (λ l. at.yielded ++ l) (sym steps.0) ∙ was.2,
      one_less _ _ _ steps.1 (was.3 ∙ ap length steps.0),
    )

pub new-requires-clause-begins : goal.new-requires-clause-begins
new-requires-clause-begins g c =
    let begun = subst (λ (a : Actor). BeginsAs c.args.n c.args.nodes.now a c.in_ok-actor.actor) c.actor.ensures c.in_ok-actor.ensures.ok in
    subst (λ k. BeginsAs k g.B.BookId.nodes c.in-Some.seat.actor c.in_ok-actor.actor) (sym c.requires.named) (subst (λ l. BeginsAs c.args.n l c.in-Some.seat.actor c.in_ok-actor.actor) c.requires.nodes begun)
