use Rattle.std.proofs.Common.{◌≡◌, take}
use Rattle.sim_ending.specs.EndNumbers.{greatest_term}
use Rattle.sim_ending.specs.Inner.Tells.{OfServers}
use Rattle.sim_ending.proofs.numbers.greatest_term.Given as goal

-- the greatest term of the servers so far
abbrev pub invariant-loop-place : goal.invariant-loop-place
invariant-loop-place l = OfServers l.world.servers (λ servers. l.term ≡ greatest_term (take l.place servers))
