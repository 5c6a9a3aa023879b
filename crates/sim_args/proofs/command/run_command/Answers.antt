use Rattle.std.specs.Prelude.{codes}
use Rattle.sim_args.specs.Words.{app_with, out_option}
use Rattle.sim_args.proofs.command.run_command.Goals as goal

pub returns : goal.returns
returns c =
    c.with_arg.ensures (app_with (codes "run") (codes "FILE")) out_option c.begun-command.ensures c.out_arg.ensures.rule c.out_arg.ensures.local
