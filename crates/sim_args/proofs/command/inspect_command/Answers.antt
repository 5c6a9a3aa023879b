use Rattle.std.specs.Prelude.{codes}
use Rattle.sim_args.specs.Words.{app_with, at_option, json_flag}
use Rattle.sim_args.proofs.command.inspect_command.Goals as goal

pub returns : goal.returns
returns c =
    let with_at = c.with_arg-command.ensures (app_with (codes "inspect") (codes "T")) at_option c.begun-command.ensures c.at_arg.ensures.rule c.at_arg.ensures.local in
    c.with_arg.ensures _ json_flag with_at c.json_arg.ensures.rule c.json_arg.ensures.local
