use Rattle.sim_draw.specs.Inner.Drawn.{Draws, first_texts, arrow_in}
use Rattle.sim_draw.proofs.drawing.draw_arrows.Given as goal

abbrev pub invariant-loop-row : goal.invariant-loop-row
invariant-loop-row l = Draws l.initial.shapes.items l.shapes.items (first_texts (arrow_in l.layout l.«record») l.row)
