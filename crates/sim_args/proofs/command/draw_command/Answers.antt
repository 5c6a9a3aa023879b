use Rattle.std.specs.Prelude.{codes}
use Rattle.sim_args.specs.Words.{app_with, html_flag}
use Rattle.sim_args.proofs.command.draw_command.Goals as goal

pub returns : goal.returns
returns c =
    c.with_arg.ensures (app_with (codes "draw") (codes "T")) html_flag c.begun-command.ensures c.html_arg.ensures.rule c.html_arg.ensures.local
