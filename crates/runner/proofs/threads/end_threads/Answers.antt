use Rattle.std.proofs.Common.{◌∙◌, sym}
use Rattle.cells.proofs.Members.{size_is}
use Rattle.runner.proofs.Tellings.{closed_told}
use Rattle.runner.proofs.threads.end_threads.Goals as goal

pub returns-clause-told : goal.returns-clause-told
returns-clause-told g c =
    let all = g.B.BookId.actors in
    let cells = c.args.cells in
    let closed = c.in_ok-world.ensures in
    let size = sym (size_is _ _ all closed.closes.group) ∙ size_is cells.servers cells.clients all c.requires.group in
    closed_told _ _ all cells.cells.items c.in_ok-world.world _ _ _ c.end_run.result closed.closes size closed.nodes c.end_run.ensures.written c.end_run.ensures.ending
