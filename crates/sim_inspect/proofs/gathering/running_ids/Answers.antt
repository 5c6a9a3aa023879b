use Rattle.std.proofs.Common.{◌∙◌, ap, rules}
use Rattle.sim_inspect.specs.Inner.Clients.{running_text}
use Rattle.sim_inspect.proofs.Reports.{texts_more}
use Rattle.sim_inspect.proofs.gathering.running_ids.Goals as goal

pub loop-one-preserved : goal.loop-one-preserved
loop-one-preserved c =
    texts_more running_text c.args.running.now c.loop-one.one-index c.one-item.result c.loop-one.texts.items _ c.in_ok-alloc_text.field-0 (search rules)
    c.one-item.is c.loop-one.invariant (c.in_ok-alloc_text.ensures ∙ ap running_text c.one.view_is) c.in_ok-push.ensures.items
