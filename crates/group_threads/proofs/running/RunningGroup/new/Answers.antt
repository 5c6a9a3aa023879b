use Rattle.std.proofs.Common.{◌≡◌, sym, subst, rules, IfErr}
use Rattle.std.specs.Prelude.{Err}
use Rattle.group_threads.specs.Running.{WhyNotRunning}
use Rattle.group_threads.proofs.Started.{why_not_running}
use Rattle.group_threads.proofs.running.RunningGroup.new.Goals as goal

pub returns-in_err-queues-clause-refused : goal.returns-in_err-queues-clause-refused
returns-in_err-queues-clause-refused g c =
    let same : c.from_residual.result ≡ Err c.in_err-queues.field-0.0 = search rules in
    subst (λ q. IfErr q (WhyNotRunning c.args.net.capacity)) (sym same) (why_not_running _ _ _ c.actors.ensures.once c.in_err-queues.ensures.refused)
