use Rattle.std.proofs.Common.{rules}
use Rattle.sim_draw.proofs.Tops.{rows_hold}
use Rattle.sim_draw.proofs.layout.Layout.new.Goals as goal

pub returns-clause-rows : goal.returns-clause-rows
returns-clause-rows c =
    rows_hold _ _ _ _ _ _ _ c.in_ok-slots.ensures.fans c.in_ok-tops.ensures (search rules) (search rules) (search rules) (search rules)
