use Rattle.std.proofs.Common.{◌<◌, IfSome}
use Rattle.sim_ending.specs.Inner.Newest.{IsFound}
use Rattle.sim_ending.specs.Inner.Tells.{OfServers}
use Rattle.sim_ending.specs.declared.newest.Newest.{Newest}
use Rattle.sim_ending.proofs.newest.find_newest.Given as goal

-- the newest of the servers so far
abbrev pub invariant-loop-place : goal.invariant-loop-place
invariant-loop-place l = record {
  found : OfServers l.world.servers (λ servers. IsFound servers l.place l.found);
  within : IfSome l.found (λ (f : Newest). f.place < l.place);
}
