use Rattle.std.proofs.Common.{◌≡◌, ◌∙◌, ◌<◌, ◌++◌, ◌∷◌, [], ap, length, rules, sym}
use Rattle.world.specs.GroupView.{node_in}
use Rattle.event_texts.proofs.Records.{map_more}
use Rattle.transcript.proofs.writing.nodes_of.Goals as goal

pub loop-client-preserved : goal.loop-client-preserved
loop-client-preserved c =
    let agents = c.args.clients.now in
    let i = c.loop-client.client-index in
    let agent = c.client-item.result in
    let lt : i < length agents = search rules in
    let pushed : c.push.new.self.items ≡ c.loop-client.nodes.items ++ node_in agent ∷ [] = search rules in
    pushed ∙ ap (λ nodes. nodes ++ node_in agent ∷ []) c.loop-client.invariant ∙ sym (map_more node_in agents i agent lt c.client-item.is)
