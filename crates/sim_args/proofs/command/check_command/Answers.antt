use Rattle.std.specs.Prelude.{codes}
use Rattle.sim_args.specs.Words.{app_with, short_flag}
use Rattle.sim_args.proofs.command.check_command.Goals as goal

pub returns : goal.returns
returns c =
    c.with_arg.ensures (app_with (codes "check") (codes "FILE")) short_flag c.begun-command.ensures c.short_arg.ensures.rule c.short_arg.ensures.local
