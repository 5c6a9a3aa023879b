use Rattle.sim_draw.specs.Inner.Drawn.{Draws, first_texts, band_in}
use Rattle.sim_draw.proofs.drawing.draw_bands.Given as goal

abbrev pub invariant-loop-row : goal.invariant-loop-row
invariant-loop-row l = Draws l.initial.shapes.items l.shapes.items (first_texts (band_in l.layout l.column l.text) l.row)
