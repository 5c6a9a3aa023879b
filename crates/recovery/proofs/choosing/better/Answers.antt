use Rattle.std.proofs.Common.{sym}
use Rattle.recovery.proofs.choosing.better.Goals as goal

pub is_preferred-preferred-requires-clause-up : goal.is_preferred-preferred-requires-clause-up
is_preferred-preferred-requires-clause-up g c =
    let r = c.has_run.ensures.run in
    record { past = r.past; moment = r.moment; runs = r.runs; ever = λ past w q. sym (c.if-not-is_up.ensures past w q) }
