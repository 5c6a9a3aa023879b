use Rattle.std.proofs.Common.{◌≡◌, map, string_bytes, take}
use Rattle.sim_labels.specs.Words.{alloc_text}
use Rattle.sim_inspect.proofs.gathering.ids.Given as goal

abbrev pub invariant-loop-id : goal.invariant-loop-id
invariant-loop-id l = map string_bytes l.texts.items ≡ map alloc_text (take l.id-index l.ids)
