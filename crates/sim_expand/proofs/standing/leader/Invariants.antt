use Rattle.std.proofs.Common.{◌≡◌, None, drop, fold}
use Rattle.std.specs.Prelude.{option_map}
use Rattle.sim_expand.specs.Inner.Standings.{later}
use Rattle.sim_expand.proofs.standing.leader.Given as goal

-- what is left finds what all of them do
abbrev pub invariant-loop-server : goal.invariant-loop-server
invariant-loop-server l = fold later (option_map (λ s. s.now) l.found) (drop l.server-index l.servers) ≡ fold later None l.servers
