use Rattle.sim_draw.proofs.row.draw_origin.Goals as goal

pub returns : goal.returns
returns c = rw c.in-Some.is (rw (c.down.ensures, c.in_ok-text.ensures.ok, c.saturating_add.ensures) at c.label.ensures)
