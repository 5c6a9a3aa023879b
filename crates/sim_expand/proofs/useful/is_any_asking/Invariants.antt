use Rattle.std.proofs.Common.{◌≡◌, drop}
use Rattle.std.specs.List.{list_any}
use Rattle.sim_expand.specs.Inner.Uses.{is_asking}
use Rattle.sim_expand.proofs.useful.is_any_asking.Given as goal

-- none of those before asks
abbrev pub invariant-loop-client : goal.invariant-loop-client
invariant-loop-client l = list_any (is_asking l.news l.state) l.clients ≡ list_any (is_asking l.news l.state) (drop l.client-index l.clients)
