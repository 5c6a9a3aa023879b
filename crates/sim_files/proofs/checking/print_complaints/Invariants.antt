use Rattle.std.proofs.Common.{take}
use Rattle.sim_files.specs.Inner.Printed.{ShowsEach}
use Rattle.sim_files.proofs.checking.print_complaints.Given as goal

-- the lines of the complaints so far
abbrev pub invariant-loop-complaint : goal.invariant-loop-complaint
invariant-loop-complaint g l = ShowsEach (take l.complaint-index l.found) (g.W.Write.contents l.fn.out) (g.W.Write.contents l.out)
