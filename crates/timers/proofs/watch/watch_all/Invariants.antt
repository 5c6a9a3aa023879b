use Rattle.std.proofs.Common.{◌≡◌, take}
use Rattle.timers.specs.Watches.{watch_all}
use Rattle.timers.proofs.watch.watch_all.Given as goal

abbrev pub invariant-loop-what : goal.invariant-loop-what
invariant-loop-what l = l.now.items ≡ watch_all l.grace l.ms l.before (take l.what-index l.seen)
