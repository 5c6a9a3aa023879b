-- The queue of plans by itself, and what a desk makes of a plan that comes.
use Rattle.std.specs.Prelude.{◌≡◌, ℕ, if◌then◌else◌, nat_lt, Option, Some, Result, Ok, Err, List, [], ◌∷◌, ◌++◌, length}
use Rattle.rows.specs.declared.plan.Plan.{Plan}
use Rattle.rows.specs.declared.evaluation.Evaluation.{Evaluation}
use Rattle.rows.specs.declared.refusal.Refusal.{Refusal}
use Rattle.rows.specs.declared.refusal.Refusal.TheVariants as refusals
use Rattle.group_model.specs.Order.{Picked, pick}
use Rattle.group_model.specs.Desks.{Desk, QueuedPlan}
use Rattle.group_model.specs.Plans.{QUEUE, joins}

-- a plan of an evaluation of this priority, from a worker of this server
abbrev pub queued_plan : Plan → ℕ → ℕ → QueuedPlan
queued_plan p priority from = record { plan = p; priority = priority; from = from }

-- a plan joins those that wait, behind them, unless as many wait as may
abbrev pub plans_with : QueuedPlan → List QueuedPlan → Result (List QueuedPlan) Refusal
plans_with w plans = if nat_lt (length plans) QUEUE then Ok (plans ++ w ∷ []) else Err refusals.QueueFull

-- the one that goes first, and the others, if any wait
abbrev pub first_plan : List QueuedPlan → Option (Picked QueuedPlan)
first_plan plans = pick (λ (w : QueuedPlan). w.priority) plans

-- the desk at which these plans wait, if the plan could join them
abbrev pub waits_with : Desk → Result (List QueuedPlan) Refusal → Result Desk Refusal
waits_with d (Ok plans) = Ok (record d { plans = plans })
waits_with d (Err r) = Err r

-- A plan of an evaluation that is there comes to a desk as it comes to the desk's queue.
abbrev pub JoinsTheQueue : Type 0
JoinsTheQueue = (from : ℕ) (d : Desk) (p : Plan) (e : Evaluation) →
    joins from d p (Some e) ≡ waits_with d (plans_with (queued_plan p e.priority from) d.plans)
