use Rattle.sim_sweep.proofs.Spreads.{spread_of_sorted}
use Rattle.sim_sweep.proofs.spread.spread_of.Goals as goal

pub returns : goal.returns
returns c = spread_of_sorted c.args.numbers.items c.sort.new.self.items c.spread_in.result c.in_ok-sort.ensures.permutation (rw c.deref.ensures.value at c.spread_in.ensures)
