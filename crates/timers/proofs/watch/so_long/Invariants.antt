use Rattle.std.proofs.Common.{◌≡◌, drop}
use Rattle.timers.specs.Watches.{so_long}
use Rattle.timers.proofs.watch.so_long.Given as goal

-- it is not among those that were passed
abbrev pub invariant-loop-was : goal.invariant-loop-was
invariant-loop-was l = so_long l.ms l.before l.what ≡ so_long l.ms (drop l.was-index l.before) l.what
