use Rattle.rows.specs.Versions.{newest}
use Rattle.fields_model.specs.Commands.{bodies, tag_of}
use Rattle.fields.proofs.Loop.{part_put}
use Rattle.fields.proofs.commands.append_body.Goals as goal

pub returns-in_err-append-in-Drain : goal.returns-in_err-append-in-Drain
returns-in_err-append-in-Drain c = part_put (bodies newest (tag_of c.args.command.now)) c.args.command.now _ _ c.from_residual.result c.from_residual.ensures.0 c.in_err-append-in-Drain.ensures

pub returns-in_err-append-in-EvalStatus : goal.returns-in_err-append-in-EvalStatus
returns-in_err-append-in-EvalStatus c = part_put (bodies newest (tag_of c.args.command.now)) c.args.command.now _ _ c.from_residual-in_err-append-in-EvalStatus.result c.from_residual-in_err-append-in-EvalStatus.ensures.0 c.in_err-append-in-EvalStatus.ensures

pub returns-in_err-append-in-Report : goal.returns-in_err-append-in-Report
returns-in_err-append-in-Report c = part_put (bodies newest (tag_of c.args.command.now)) c.args.command.now _ _ c.from_residual-in_err-append-in-Report.result c.from_residual-in_err-append-in-Report.ensures.0 c.in_err-append-in-Report.ensures
