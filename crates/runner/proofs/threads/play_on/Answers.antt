use Rattle.std.proofs.Common.{◌∙◌, ap}
use Rattle.std.proofs.lemmas.Result.{IfOk-weaker}
use Rattle.cells.specs.Actors.{group_size}
use Rattle.runner.proofs.Tellings.{lines_on}
use Rattle.runner.proofs.threads.play_on.Goals as goal

pub returns-clause-told : goal.returns-clause-told
returns-clause-told g c =
    let all = g.B.BookId.actors in
    IfOk-weaker c.play_steps.result _ _
    (λ status told. (told.0, lines_on (group_size all) (λ stage. stage.group.value.cells.actors) all _ _ _ told.0 (ap (λ x. x.cells.actors) c.in_ok-held.ensures ∙ c.requires) told.1, told.2))
    c.play_steps.ensures.told
