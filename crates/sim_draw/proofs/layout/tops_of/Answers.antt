use Rattle.std.proofs.Common.{◌∙◌, ◌+◌, get_or, refl, ap}
use Rattle.sim_draw.specs.Inner.Positions.{capped, row_height}
use Rattle.sim_draw.specs.Inner.Fans.{no_fan}
use Rattle.sim_draw.proofs.Tops.{follow_more}
use Rattle.sim_draw.proofs.layout.tops_of.Goals as goal

pub loop-row-preserved : goal.loop-row-preserved
loop-row-preserved c =
    let fans = c.args.fans.now in
    let top = c.top_below-top.result in
    let fan = get_or fans c.loop-row.row no_fan in
    follow_more fans c.loop-row.tops.items _ c.loop-row.end c.loop-row.row top _ fan c.loop-row.invariant
    c.top_below-top.ensures c.in_ok-push.ensures.items refl
    (c.saturating_add-end.ensures ∙ ap (λ h. capped (top + h)) (c.height_of.ensures ∙ ap row_height c.depth.ensures))
