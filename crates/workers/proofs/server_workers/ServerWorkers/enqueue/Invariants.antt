use Rattle.std.proofs.Common.{◌≡◌, ◌++◌}
use Rattle.std.specs.Vec.Iter.{into_iter_items}
use Rattle.workers.proofs.server_workers.ServerWorkers.enqueue.Given as goal

abbrev pub invariant-loop-response : goal.invariant-loop-response
invariant-loop-response l =
    (l.self-inside.waiting ≡ l.initial.self-inside.waiting ++ l.yielded)
    × (l.yielded ++ into_iter_items l.response-iterator ≡ l.fn.work)
    × (l.self-inside.plans ≡ l.initial.self-inside.plans)
