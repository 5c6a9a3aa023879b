use Rattle.std.proofs.Common.{take}
use Rattle.std.specs.Io.KnownBytes.{Appends}
use Rattle.sim_ending.specs.Endings.{numbered_lines, server_line}
use Rattle.sim_ending.specs.Inner.Tells.{OfServers}
use Rattle.sim_ending.proofs.servers.print_servers.Given as goal

-- the lines of the servers so far
abbrev pub invariant-loop-place : goal.invariant-loop-place
invariant-loop-place g l = OfServers l.world.servers (λ servers. Appends (g.W.Write.contents l.fn.out) (g.W.Write.contents l.out) (numbered_lines server_line 1 (take l.place servers)))
