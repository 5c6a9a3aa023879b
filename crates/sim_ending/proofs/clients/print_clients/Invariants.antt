use Rattle.std.proofs.Common.{take}
use Rattle.std.specs.Io.KnownBytes.{Appends}
use Rattle.sim_ending.specs.Endings.{numbered_lines}
use Rattle.sim_ending.specs.Inner.Tells.{agent_line}
use Rattle.sim_ending.proofs.clients.print_clients.Given as goal

-- the lines of the clients so far
abbrev pub invariant-loop-place : goal.invariant-loop-place
invariant-loop-place g l = Appends (g.W.Write.contents l.fn.out) (g.W.Write.contents l.out) (numbered_lines agent_line 1 (take l.place l.clients))
