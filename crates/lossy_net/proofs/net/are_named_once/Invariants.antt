use Rattle.std.proofs.Common.{◌↔◌, drop}
use Rattle.lossy_net.specs.Queues.{AreNamedOnce}
use Rattle.lossy_net.proofs.net.are_named_once.Given as goal

abbrev pub invariant-loop-place : goal.invariant-loop-place
invariant-loop-place l = AreNamedOnce (drop l.place l.actors) ↔ AreNamedOnce l.actors
