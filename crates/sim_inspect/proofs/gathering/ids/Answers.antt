use Rattle.std.proofs.Common.{rules}
use Rattle.sim_labels.specs.Words.{alloc_text}
use Rattle.sim_inspect.proofs.Reports.{texts_more}
use Rattle.sim_inspect.proofs.gathering.ids.Goals as goal

pub loop-id-preserved : goal.loop-id-preserved
loop-id-preserved c =
    texts_more alloc_text c.args.ids.now c.loop-id.id-index c.id-item.result c.loop-id.texts.items _ c.in_ok-alloc_text.field-0 (search rules)
    c.id-item.is c.loop-id.invariant c.in_ok-alloc_text.ensures c.in_ok-push.ensures.items
