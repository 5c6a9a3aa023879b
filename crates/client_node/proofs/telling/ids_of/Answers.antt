use Rattle.std.proofs.Common.{◌∙◌, ◌++◌, ◌∷◌, [], ap}
use Rattle.group_model.specs.Agents.{Running}
use Rattle.client_node.proofs.Told.{id_more}
use Rattle.client_node.proofs.telling.ids_of.Goals as goal

pub loop-one-preserved : goal.loop-one-preserved
loop-one-preserved c =
    id_more c.args.running.now c.loop-one.one-index c.one-item.result c.loop-one.ids.items c.push.new.self.items c.loop-one-test.true c.one-item.is
    c.loop-one.invariant (c.in_ok-push.ensures.items ∙ ap (λ (r : Running). c.loop-one.ids.items ++ r.id ∷ []) c.one.view_is)
