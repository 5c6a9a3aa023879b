use Rattle.std.proofs.Common.{◌≡◌, ◌∙◌, ◌<◌, ◌≤◌, Option, Some, [], ap, append-nil, length, sym, subst, take, arith}
use Rattle.std.proofs.Math.Seq.{take-append_seam}
use Rattle.group_model.specs.Messages.{Listing}
use Rattle.group_model.specs.Agents.{Life, Arrives, Input}
use Rattle.client_agent.specs.AgentView.{AgentView}
use Rattle.client_agent.specs.Steps.{AgentSteps}
use Rattle.client_agent.proofs.Taking.{list_is_old, list_is_taken}
use Rattle.client_agent.proofs.agent.Agent.handle_list.Goals as goal

pub returns-then-get-clause-taken : goal.returns-then-get-clause-taken
returns-then-get-clause-taken c =
    let list = c.args.list.now in
    let all = c.args.outbox.now in
    let input : Input = Arrives list.from (Listing list.index list.rows.now) in
    let of : Option Life → AgentView = λ o. record { size = c.self.inside.size; client = record { node = c.self.inside.node; started = c.self.inside.started; life = o } } in
    let life = sym c.in-Some.ensures.value in
    let below : list.index < c.in-Some.life.seen = omega arith in
    let taken : AgentSteps (of c.self.inside.life) input (of c.self.inside.life) all all = list_is_old (of c.self.inside.life) c.in-Some.life list.from list.index list.rows.now all life below in
    subst (λ (a : AgentView). AgentSteps a input (of (Some c.in-Some.life)) all all) c.self.view_is
    (subst (λ (o : Option Life). AgentSteps (of c.self.inside.life) input (of o) all all) life taken)

pub returns-in-Ok-clause-taken : goal.returns-in-Ok-clause-taken
returns-in-Ok-clause-taken c =
    let list = c.args.list.now in
    let input : Input = Arrives list.from (Listing list.index list.rows.now) in
    let old : AgentView = record { size = c.self.inside.size; client = record { node = c.self.inside.node; started = c.self.inside.started; life = c.self.inside.life } } in
    let new : AgentView = record { size = c.self.inside.size; client = record { node = c.self.inside.node; started = c.apply_list.new.started; life = Some c.apply_list.new.life } } in
    let above : c.in-Some.life.seen ≤ list.index = omega arith in
    let ok = c.in-Ok.ensures.ok in
    let taken = list_is_taken old new c.in-Some.life list.from list.index list.rows.now c.args.outbox.now c.apply_list.new.outbox (sym c.in-Some.ensures.value) above
    (λ i. record { node = c.self.inside.node; started = ok.0 i; life = Some (ok.1 i) }) ok.2 in
    subst (λ (a : AgentView). AgentSteps a input new c.args.outbox.now c.apply_list.new.outbox) c.self.view_is taken

-- what it had started before is what is left
pub returns-in-Err-clause-grows : goal.returns-in-Err-clause-grows
returns-in-Err-clause-grows c =
    let old = c.self.inside.started in
    let more = c.in-Err.ensures.grows in
    let back : c.truncate.new.self ≡ c.args.self.now.client.started =
    c.truncate.ensures ∙ ap (λ n. take n c.apply_list.new.started) c.len-before.ensures ∙ ap (take (length old)) more.1 ∙ take-append_seam old more.0
    ∙ ap (λ (a : AgentView). a.client.started) c.self.view_is in
    ([], back ∙ sym (append-nil c.args.self.now.client.started))
