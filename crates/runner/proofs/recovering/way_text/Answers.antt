use Rattle.std.proofs.Common.{ap, length, string_bytes, take}
use Rattle.std.proofs.lemmas.Result.{IfOk-weaker}
use Rattle.runner.proofs.Ways.{way_is_told}
use Rattle.runner.proofs.recovering.way_text.Goals as goal

pub returns-in-Ok-clause-text : goal.returns-in-Ok-clause-text
returns-in-Ok-clause-text c =
    let events = c.as_slice-events.result.now in
    let told = rw c.as_slice-nodes.ensures.value at c.in-Ok.ensures.told in
    IfOk-weaker c.said_way.result _ _
    (λ text says. way_is_told c.args.transcript.now (take c.args.after events) c.args.after (length events) c.in-Ok.way (string_bytes text)
    (ap (take c.args.after) c.as_slice-events.ensures.value) (ap length c.as_slice-events.ensures.value) told says)
    c.said_way.ensures.text
