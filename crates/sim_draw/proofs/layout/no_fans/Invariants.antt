use Rattle.std.proofs.Common.{◌≡◌, replicate}
use Rattle.sim_draw.specs.Inner.Fans.{no_fan}
use Rattle.sim_draw.proofs.layout.no_fans.Given as goal

abbrev pub invariant-loop : goal.invariant-loop
invariant-loop l = l.fans.items ≡ replicate l.counter no_fan
