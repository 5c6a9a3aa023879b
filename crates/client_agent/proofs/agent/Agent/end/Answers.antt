use Rattle.std.proofs.Common.{not, Some, sym, ap, subst, ◌∙◌}
use Rattle.fsm_model.specs.Words.{same_alloc}
use Rattle.group_model.specs.Agents.{Life, Running}
use Rattle.group_inputs.specs.declared.client_input.ClientInput.TheVariants as inputs
use Rattle.client_agent.specs.AgentView.{AgentView}
use Rattle.client_agent.specs.Steps.{AgentTakes}
use Rattle.client_agent.proofs.Fits.{fit_part, fit_of}
use Rattle.client_agent.proofs.Taking.{ended_by}
use Rattle.client_agent.proofs.agent.Agent.end.Goals as goal

pub invariant_of-self-in-Ok : goal.invariant_of-self-in-Ok
invariant_of-self-in-Ok c =
    let life = c.in-Some.life in
    let fit = fit_of c.self.inside.node.size c.self.inside.life life c.in-Some.ensures.value c.self.invariant in
    rw c.in-Ok.ensures (fit_part c.self.inside.node.size (λ (r : Running). not (same_alloc r.id c.args.id)) life.running fit)

pub returns-in-Ok-clause-taken : goal.returns-in-Ok-clause-taken
returns-in-Ok-clause-taken c all =
    let old : AgentView = record { size = c.self.inside.size; client = record { node = c.self.inside.node; started = c.self.inside.started; life = c.self.inside.life } } in
    let new : AgentView = record { size = c.self.inside.size; client = record { node = c.self.inside.node; started = c.self.inside.started; life = Some c.end.new.self } } in
    let taken = ended_by old new c.in-Some.life c.args.id c.args.ok all (sym c.in-Some.ensures.value) (sym c.runs.ensures ∙ c.if-not-runs.false)
    (ap (λ (l : Life). record old.client { life = Some l }) c.in-Ok.ensures) in
    subst (λ (a : AgentView). AgentTakes a (inputs.End c.args.id c.args.ok) new all all) c.self.view_is taken
