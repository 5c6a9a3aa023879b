use Rattle.std.specs.Prelude.{codes}
use Rattle.sim_args.specs.Words.{app_with, at_option, every_option}
use Rattle.sim_args.proofs.command.recover_command.Goals as goal

pub returns : goal.returns
returns c =
    let with_at = c.with_arg-command.ensures (app_with (codes "recover") (codes "T")) at_option c.begun-command.ensures c.at_arg.ensures.rule c.at_arg.ensures.local in
    c.with_arg.ensures _ every_option with_at c.every_arg.ensures.rule c.every_arg.ensures.local
