use Rattle.std.proofs.Common.{ℕ, ◌<◌, ◌≤◌, length, get_or}
use Rattle.group_model.specs.Desks.{QueuedPlan}
use Rattle.plan_queue.proofs.queue.first_position.Given as goal

abbrev pub invariant-loop-at : goal.invariant-loop-at
invariant-loop-at l = record {
  within : l.best < l.at;
  few : l.at ≤ length l.plans;
  highest : (j : ℕ) (d : QueuedPlan) → j < l.at → (get_or l.plans j d).priority ≤ (get_or l.plans l.best d).priority;
  earlier : (j : ℕ) (d : QueuedPlan) → j < l.best → (get_or l.plans j d).priority < (get_or l.plans l.best d).priority;
}
