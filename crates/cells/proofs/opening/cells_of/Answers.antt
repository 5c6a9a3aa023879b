use Rattle.std.proofs.Common.{length, subst}
use Rattle.cells.specs.Opening.{MayMakeCells}
use Rattle.cells.proofs.Members.{size_is}
use Rattle.cells.proofs.opening.cells_of.Goals as goal

pub new_cells-requires-clause-named : goal.new_cells-requires-clause-named
new_cells-requires-clause-named g c =
    let n = c.args.n in
    let m = length c.args.nodes.now in
    let may : MayMakeCells n m g.B.BookId.actors c.as_slice.result.now = subst (λ l. MayMakeCells n m l c.as_slice.result.now) c.actors.ensures c.if-not-may_make.ensures in
    size_is n m g.B.BookId.actors may.group
