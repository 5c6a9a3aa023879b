use Rattle.std.proofs.lemmas.Result.{on_ok_weaker}
use Rattle.sim_files.proofs.checking.show_notes.Goals as goal

pub returns-clause-notes : goal.returns-clause-notes
returns-clause-notes g c =
    let notes = c.in_ok-notes.notes.items in
    on_ok_weaker c.print_notes.result
    (λ shown. (c.in-Ok.scenario, c.in-Ok.ensures.ok, (notes, c.in_ok-notes.ensures, rw c.deref.ensures.value at shown)))
    c.print_notes.ensures.lines
