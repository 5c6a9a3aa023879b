use Rattle.std.proofs.Common.{◌≡◌}
use Rattle.runner.specs.Inner.Actors.{first_servers}
use Rattle.runner.proofs.threads.first_servers.Given as goal

-- the servers so far
abbrev pub invariant-loop-position : goal.invariant-loop-position
invariant-loop-position l = l.actors.items ≡ first_servers l.position
