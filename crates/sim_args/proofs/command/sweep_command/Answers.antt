use Rattle.sim_args.specs.Words.{csv_flag, jobs_option, percents_app}
use Rattle.sim_args.proofs.command.sweep_command.Goals as goal

pub returns : goal.returns
returns c =
    let with_jobs = c.with_arg-command.ensures percents_app jobs_option c.percents_command.ensures c.jobs_arg.ensures.rule c.jobs_arg.ensures.local in
    c.with_arg.ensures _ csv_flag with_jobs c.csv_arg.ensures.rule c.csv_arg.ensures.local
