use Rattle.std.proofs.Common.{refl, sym, ◌∙◌}
use Rattle.group_inputs.specs.Handings.{handing}
use Rattle.cells.proofs.Answering.{server_handed}
use Rattle.cells.proofs.stepping.own_server.Goals as goal

pub returns-in_ok-again-in-Server : goal.returns-in_ok-again-in-Server
returns-in_ok-again-in-Server c =
    let no_frame = rw c.as_ref-given.ensures at (sym c.is_frame.ensures ∙ c.if-is_frame.false) in
    let answers = rw (c.in_ok-again-in-Server.ensures, c.as_ref-given.ensures) at c.hand_server.ensures in
    rw c.in-Server.is (server_handed c.args.server.now c.hand_server.new.server c.args.outbox.now c.hand_server.new.outbox c.requires c.in-Server.input (handing c.in-Server.input.value) c.hand_server.result refl no_frame answers)
