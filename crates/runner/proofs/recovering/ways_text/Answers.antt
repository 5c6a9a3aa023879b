use Rattle.std.proofs.Common.{ap, string_bytes, take}
use Rattle.std.proofs.lemmas.Result.{IfOk-weaker}
use Rattle.runner.proofs.Ways.{table_is_told}
use Rattle.runner.proofs.recovering.ways_text.Goals as goal

pub returns-in-Ok-clause-text : goal.returns-in-Ok-clause-text
returns-in-Ok-clause-text c =
    let events = c.as_slice-events.result.now in
    let told = rw c.as_slice-nodes.ensures.value at c.in-Ok.ensures.told in
    IfOk-weaker c.said_table.result _ _
    (λ text says. table_is_told c.args.transcript.now (take c.args.after events) c.args.after c.in-Some.every c.args.word.now c.in-Ok.table (string_bytes text)
    (ap (take c.args.after) c.as_slice-events.ensures.value) c.in-Some.ensures.some told says)
    c.said_table.ensures.text
