use Rattle.rows.proofs.NameWords.{by_cells}
use Rattle.rows.proofs.name.NameOrd.cmp.Goals as goal

pub returns : goal.returns
returns c = let cells = by_cells c.self.inside.size c.other.inside.size c.self.inside.bytes c.other.inside.bytes c.self.invariant c.other.invariant in cc
