use Rattle.std.proofs.Common.{◌≡◌, ◌++◌, take}
use Rattle.timers.specs.ServerTimes.{too_long}
use Rattle.timers.proofs.server_timers.put_too_long.Given as goal

abbrev pub invariant-loop-what : goal.invariant-loop-what
invariant-loop-what l = l.due.items ≡ l.fn.due.items ++ too_long l.grace l.ms l.before (take l.what-index l.seen)
