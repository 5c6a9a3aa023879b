use Rattle.std.proofs.Common.{◌≡◌, take}
use Rattle.client_agent.specs.Capacity.{AreDistinct}
use Rattle.client_agent.proofs.started.Started.of.Given as goal

-- those so far, none of them twice
abbrev pub invariant-loop-id : goal.invariant-loop-id
invariant-loop-id l = record {
  so_far : l.started ≡ take l.id-index l.ids;
  distinct : AreDistinct l.started;
}
