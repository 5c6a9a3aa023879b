use Rattle.std.proofs.Common.{◌≡◌, map, take, replicate}
use Rattle.crossbeam_queue.specs.Passes.{queue_capacity}
use Rattle.lossy_net.proofs.net.Net.new.Given as goal

abbrev pub invariant-loop-actor : goal.invariant-loop-actor
invariant-loop-actor g l = record {
  actors : map (λ m. m.actor) l.mailboxes.items ≡ take l.actor-index l.actors;
  capacities : map (λ m. queue_capacity m.queue) l.mailboxes.items ≡ replicate l.actor-index l.capacity;
}
