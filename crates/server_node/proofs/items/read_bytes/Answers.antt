use Rattle.std.proofs.Common.{IfOk, subst}
use Rattle.server_node.specs.Inner.Lines.{IsReadAs}
use Rattle.server_node.proofs.ReadItems.{no_text_no_line}
use Rattle.server_node.proofs.items.read_bytes.Goals as goal

pub returns-in-Ok : goal.returns-in-Ok
returns-in-Ok c = subst (λ line. IfOk c.read_text.result (IsReadAs line)) c.in-Ok.ensures.cases.0 c.read_text.ensures

pub returns-in-Err : goal.returns-in-Err
returns-in-Err c = no_text_no_line c.args.line.now c.in-Err.ensures.cases.0
