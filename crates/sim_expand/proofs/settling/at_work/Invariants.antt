use Rattle.std.proofs.Common.{◌≡◌, drop}
use Rattle.std.specs.List.{list_any}
use Rattle.sim_expand.specs.Inner.Uses.{goes_on}
use Rattle.sim_expand.proofs.settling.at_work.Given as goal

-- no worker of those before goes on
abbrev pub invariant-loop-own : goal.invariant-loop-own
invariant-loop-own l = list_any (λ s. goes_on l.play s.id) l.servers ≡ list_any (λ s. goes_on l.play s.id) (drop l.own-index l.servers)
