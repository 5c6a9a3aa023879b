use Rattle.std.proofs.Common.{◌≡◌, map, take}
use Rattle.group_model.specs.Agents.{Running}
use Rattle.client_node.proofs.telling.ids_of.Given as goal

-- those so far
abbrev pub invariant-loop-one : goal.invariant-loop-one
invariant-loop-one l = l.ids.items ≡ map (λ (r : Running). r.id) (take l.one-index l.running)
