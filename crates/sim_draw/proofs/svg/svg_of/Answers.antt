use Rattle.std.proofs.Common.{◌<◌, length, rules}
use Rattle.sim_draw.specs.Inner.Shapes.{text_of, head_text}
use Rattle.sim_draw.proofs.Loops.{flat_more}
use Rattle.sim_draw.proofs.svg.svg_of.Goals as goal

pub loop-shape-preserved : goal.loop-shape-preserved
loop-shape-preserved c =
    let shapes = c.args.shapes.now in
    let i = c.loop-shape.shape-index in
    let lt : i < length shapes = search rules in
    flat_more text_of (head_text c.args.size.0 c.args.size.1 c.args.title.now) _ _ shapes i c.shape-item.result lt
    c.shape-item.is c.loop-shape.invariant c.in_ok-push_shape.ensures
