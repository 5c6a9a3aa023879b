use Rattle.client_agent.proofs.agent.Agent.receive.Goals as goal

pub returns-in-Ok-handle-clause-taken : goal.returns-in-Ok-handle-clause-taken
returns-in-Ok-handle-clause-taken c input (from, response, frame, is) =
    rw is (c.in-Ok-handle.ensures.taken from response (c.in-Ok.ensures.received from response frame))
