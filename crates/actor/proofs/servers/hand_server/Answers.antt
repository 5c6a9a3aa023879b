use Rattle.group_inputs.specs.Handings.{handing}
use Rattle.actor.proofs.ServerAnswers.{answers}
use Rattle.actor.proofs.servers.hand_server.Goals as goal

pub returns : goal.returns
returns c =
    let h = handing c.args.input in
    rw (c.outcome.ensures) (answers c.args.server.now c.step.new.self c.args.outbox.now c.step.new.outbox h c.is_restart-again.result c.is_restart-again.ensures c.step.result c.step.ensures)
