use Rattle.std.proofs.Common.{subst}
use Rattle.cells.specs.Actors.{group_size}
use Rattle.cells.specs.Cells.{CellView, IsLedCell}
use Rattle.cells.proofs.Turns.{opened_is_led}
use Rattle.cells.proofs.cell.Cell.actor.Goals as goal

pub returns-clause-led : goal.returns-clause-led
returns-clause-led g c =
    let i = c.self.inside in
    let n = group_size g.B.BookId.actors in
    subst (λ (x : CellView). IsLedCell n x) c.self.view_is (opened_is_led n g.B.BookId.nodes (record { actor = i.actor; seat = i.seat }) c.self.invariant.2)
