use Rattle.std.proofs.Common.{◌≡◌, take, vec_len}
use Rattle.client_agent.specs.Capacity.{AreDistinct}
use Rattle.client_agent.specs.Inner.Ids.{AreSet}
use Rattle.client_agent.proofs.started.forget.Given as goal

abbrev pub invariant-loop-ids : goal.invariant-loop-ids
invariant-loop-ids l = record {
  taken : take l.count l.ids.items ≡ take l.count l.fn.ids.items;
  distinct : AreDistinct l.ids.items;
  set : AreSet l.ids.items l.set;
}

abbrev pub decreases-loop-ids : goal.decreases-loop-ids
decreases-loop-ids l = vec_len l.ids
