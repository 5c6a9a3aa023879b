use Rattle.std.proofs.Common.{◌≡◌, take}
use Rattle.runner.specs.Inner.Actors.{actors_of}
use Rattle.runner.proofs.threads.actors.Given as goal

-- the servers, and the clients so far
abbrev pub invariant-loop-node : goal.invariant-loop-node
invariant-loop-node l = l.actors.items ≡ actors_of l.scenario.settings.servers (take l.node-index l.scenario.nodes.items)
