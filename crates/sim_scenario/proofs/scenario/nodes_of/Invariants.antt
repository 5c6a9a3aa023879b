use Rattle.std.proofs.Common.{map, take}
use Rattle.serde_json.specs.View.{view}
use Rattle.sim_scenario.specs.Objects.{AreNodes}
use Rattle.sim_scenario.proofs.scenario.nodes_of.Given as goal

abbrev pub invariant-loop-value : goal.invariant-loop-value
invariant-loop-value l = AreNodes 1 (map view (take l.value-index l.list)) l.nodes.items
