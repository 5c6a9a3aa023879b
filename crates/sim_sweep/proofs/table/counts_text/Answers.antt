use Rattle.std.proofs.Common.{append_assoc}
use Rattle.sim_sweep.proofs.table.counts_text.Goals as goal

pub returns : goal.returns
returns c = rw (c.in_ok-writeln.ensures.bytes, c.in_ok-text.ensures.ok) (simp append_assoc)
