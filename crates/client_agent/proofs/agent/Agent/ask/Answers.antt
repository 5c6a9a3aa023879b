use Rattle.std.proofs.Common.{◌<◌, [], ◌∷◌, sym, ap, subst, ◌∙◌, arith}
use Rattle.fsm_model.specs.ClusterMachine.{cluster_spec}
use Rattle.group_model.specs.Messages.{Service, ToServer}
use Rattle.group_frames.specs.GroupFrames.{SendsGroup}
use Rattle.client_agent.specs.AgentView.{AgentView}
use Rattle.client_agent.specs.Inner.Asking.{request_of}
use Rattle.client_agent.proofs.Taking.{asked_by}
use Rattle.client_agent.proofs.agent.Agent.ask.Goals as goal

pub returns-in-Ok-clause-taken : goal.returns-in-Ok-clause-taken
returns-in-Ok-clause-taken c =
    let member : c.args.server < c.args.self.now.size = omega (arith, ap (λ (a : AgentView). a.size) c.self.view_is, c.position.ensures.value, c.if-position-self.false) in
    let sent = subst (λ (a : AgentView). SendsGroup cluster_spec c.args.outbox.now c.send_asked.new.outbox (Service (ToServer a.client.node.number c.args.server (request_of a.client.node c.args.what)) ∷ [])) c.self.view_is c.in-Ok.ensures.ok in
    asked_by c.args.what c.args.self.now c.args.server c.args.outbox.now c.send_asked.new.outbox (sym c.is_up.ensures ∙ c.if-not-is_up.false) member sent
