use Rattle.sim_draw.specs.Inner.Drawn.{Draws, first_texts, tip_in}
use Rattle.sim_draw.proofs.drawing.put_tips.Given as goal

abbrev pub invariant-loop-row : goal.invariant-loop-row
invariant-loop-row l = Draws l.initial.shapes.items l.shapes.items (first_texts (tip_in l.layout l.width l.told) l.row)
