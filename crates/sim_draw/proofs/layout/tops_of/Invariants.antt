use Rattle.sim_draw.proofs.Tops.{Follow}
use Rattle.sim_draw.proofs.layout.tops_of.Given as goal

abbrev pub invariant-loop-row : goal.invariant-loop-row
invariant-loop-row l = Follow l.fans l.tops.items l.end l.row
