use Rattle.sim_ending.specs.EndNumbers.{NoneLeads}
use Rattle.sim_ending.specs.Inner.Tells.{OfServers}
use Rattle.sim_ending.proofs.numbers.leader_in.Given as goal

-- none of the servers so far leads
abbrev pub invariant-loop-position : goal.invariant-loop-position
invariant-loop-position l = OfServers l.world.servers (λ servers. NoneLeads l.fn.term servers l.position)
