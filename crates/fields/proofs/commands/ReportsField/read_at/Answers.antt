use Rattle.std.proofs.Common.{arith}
use Rattle.fields_model.proofs.FormatLaws.{list_lawful}
use Rattle.fields_model.specs.Commands.{report}
use Rattle.fields_model.proofs.CommandLaws.{report_lawful}
use Rattle.fields.proofs.Counted.{list_is_empty}
use Rattle.fields.proofs.commands.ReportsField.read_at.Goals as goal

pub returns-in-Err : goal.returns-in-Err
returns-in-Err c =
    list_is_empty 64 report (list_lawful 1 64 _ (omega arith) (omega arith) report_lawful) c.args.bytes.now c.args.at c.in_ok-items.items c.in_ok-items.next (λ i. omega (arith, c.type_inv.bytes i)) c.in_ok-items.ensures (λ some. c.in-Err.ensures.err.1 some)
