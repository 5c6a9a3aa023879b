use Rattle.std.proofs.Common.{◌≡◌, map, string_bytes, take}
use Rattle.sim_inspect.specs.Inner.Clients.{running_text}
use Rattle.sim_inspect.proofs.gathering.running_ids.Given as goal

abbrev pub invariant-loop-one : goal.invariant-loop-one
invariant-loop-one l = map string_bytes l.texts.items ≡ map running_text (take l.one-index l.running)
