use Rattle.std.proofs.Common.{◌≡◌, ◌++◌, map, string_bytes}
use Rattle.std.specs.Vec.Iter.{into_iter_items}
use Rattle.serde_json.specs.View.{view}
use Rattle.sim_scenario.specs.Objects.{strings}
use Rattle.sim_scenario.proofs.scenario.texts_of.Given as goal

-- the texts so far are those of the values so far
abbrev pub invariant-loop-value : goal.invariant-loop-value
invariant-loop-value l =
    (l.yielded ++ into_iter_items l.value-iterator ≡ l.fn.list.items)
    × (map view l.yielded ≡ strings (map string_bytes l.texts.items))
