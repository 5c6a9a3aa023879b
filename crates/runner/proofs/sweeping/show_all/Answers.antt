use Rattle.std.proofs.lemmas.Result.{on_ok_weaker}
use Rattle.runner.proofs.sweeping.show_all.Goals as goal

pub returns-clause-told : goal.returns-clause-told
returns-clause-told g c =
    on_ok_weaker c.show_summary.result
    (λ shown. (c.in_ok-rows.rows.items, c.in_ok-rows.ensures.rows, rw c.deref.ensures.value at shown))
    c.show_summary.ensures.told
