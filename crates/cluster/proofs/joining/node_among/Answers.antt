use Rattle.std.proofs.Common.{Some, refl, ap, ◌∙◌}
use Rattle.std.proofs.lemmas.Option.{slice_get_read}
use Rattle.cluster.proofs.Nodes.{none_more, not_none}
use Rattle.cluster.proofs.joining.node_among.Goals as goal

pub returns-in-Some : goal.returns-in-Some
returns-in-Some c =
    let named = c.args.actors.now in
    let at = c.loop-named in
    let here = slice_get_read named _ at.named-index c.named-item.result refl c.loop-named-test.true c.named-item.is in
    let found = c.in-Some.ensures.some in
    (found.0, (at.named-index, here ∙ ap Some found.1), found.2)

pub loop-named-preserved : goal.loop-named-preserved
loop-named-preserved c =
    let named = c.args.actors.now in
    let at = c.loop-named in
    let here = slice_get_read named _ at.named-index c.named-item.result refl c.loop-named-test.true c.named-item.is in
    none_more named c.args.client at.named-index c.named-item.result here c.in_default.ensures.none at.invariant

pub unreachable-requires : goal.unreachable-requires
unreachable-requires c =
    not_none c.args.actors.now c.args.client c.loop-named.named-index c.loop-named-test.false c.loop-named.invariant c.requires
