use Rattle.std.specs.Prelude.{codes}
use Rattle.sim_args.specs.Words.{keys_app, percent_option}
use Rattle.sim_args.proofs.command.percents_command.Goals as goal

pub returns : goal.returns
returns c =
    let with_drop = c.with_arg-command.ensures keys_app (percent_option (codes "drop")) c.keys_command.ensures c.percent_arg-drop.ensures.rule c.percent_arg-drop.ensures.local in
    c.with_arg.ensures _ (percent_option (codes "repeat")) with_drop c.percent_arg-repeat.ensures.rule c.percent_arg-repeat.ensures.local
