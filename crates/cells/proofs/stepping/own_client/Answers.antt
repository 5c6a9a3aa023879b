use Rattle.std.proofs.Common.{refl, sym, ◌∙◌}
use Rattle.cells.proofs.Answering.{client_handed}
use Rattle.cells.proofs.stepping.own_client.Goals as goal

pub returns-in_ok-again-in-Client : goal.returns-in_ok-again-in-Client
returns-in_ok-again-in-Client c =
    let no_frame = rw c.as_ref-given.ensures at (sym c.is_client_frame.ensures ∙ c.if-is_client_frame.false) in
    let answers = rw (c.in_ok-again-in-Client.ensures.same, c.as_ref-given.ensures) at c.hand_client.ensures.answers in
    rw c.in-Client.is (client_handed c.args.client.now c.hand_client.new.client c.args.outbox.now (record { frames = c.hand_client.new.frames; work = c.args.outbox.now.work }) c.requires refl c.in-Client.input c.hand_client.result no_frame answers)
