use Rattle.std.proofs.Common.{◌∙◌, [], ap, sym}
use Rattle.std.proofs.lemmas.List.{flat_map_more}
use Rattle.sim_draw.specs.Inner.Shapes.{text_of}
use Rattle.sim_draw.specs.Inner.Drawn.{drawn}
use Rattle.sim_draw.proofs.shape.put.Goals as goal

pub returns : goal.returns
returns c = ap drawn c.in_ok-push.ensures.items ∙ sym (flat_map_more text_of [] c.args.shapes.now.items c.args.shape)
