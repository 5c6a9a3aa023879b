use Rattle.std.proofs.lemmas.Result.{IfOk-weaker}
use Rattle.runner.proofs.Tellings.{on_threads_told}
use Rattle.runner.proofs.threads.threads_file.Goals as goal

pub returns-clause-told : goal.returns-clause-told
returns-clause-told g c =
    IfOk-weaker c.run_threads.result _ _
    (λ status. on_threads_told _ _ c.in_ok-scenario.scenario status _ _ c.in_ok-scenario.ensures.read c.in_ok-check_steps.ensures.good)
    c.run_threads.ensures.told
