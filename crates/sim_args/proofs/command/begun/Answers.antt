use Rattle.std.proofs.Common.{rules, Ok}
use Rattle.clap.specs.Words.{new_app}
use Rattle.sim_args.specs.Inner.Commands.{IsMade}
use Rattle.sim_args.specs.Words.{required_word}
use Rattle.sim_args.proofs.command.begun.Goals as goal

pub returns : goal.returns
returns c =
    let name = c.args.name.now in
    let made : IsMade (new_app name) (Ok c.after_help-command.result) = search rules in
    c.with_arg.ensures (new_app name) (required_word c.args.id.now) made c.needed.ensures.rule c.needed.ensures.local
