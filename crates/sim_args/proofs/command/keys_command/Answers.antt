use Rattle.std.specs.Prelude.{codes}
use Rattle.sim_args.specs.Words.{app_with, keys_option}
use Rattle.sim_args.proofs.command.keys_command.Goals as goal

pub returns : goal.returns
returns c =
    c.with_arg.ensures (app_with (codes "sweep") (codes "FILE")) keys_option c.begun-command.ensures c.keys_arg.ensures.rule c.keys_arg.ensures.local
