use Rattle.std.specs.Prelude.{codes}
use Rattle.sim_args.specs.Words.{app_with, out_option, workers_option}
use Rattle.sim_args.proofs.command.threads_command.Goals as goal

pub returns : goal.returns
returns c =
    let with_workers = c.with_arg-command.ensures (app_with (codes "threads") (codes "FILE")) workers_option c.begun-command.ensures c.workers_arg.ensures.rule c.workers_arg.ensures.local in
    c.with_arg.ensures _ out_option with_workers c.out_arg.ensures.rule c.out_arg.ensures.local
