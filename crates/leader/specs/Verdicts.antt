-- What becomes of the plan whose turn it is.
use Rattle.std.specs.Prelude.{◌≡◌, ℕ, Bool, Option, Some, None, Result, Ok, Err, is_ok, IfOk}
use Rattle.rows.specs.declared.plan.Plan.{Plan}
use Rattle.rows.specs.declared.refusal.Refusal.{Refusal}
use Rattle.fsm_model.specs.Words.{State, is_some_and}
use Rattle.group_model.specs.Order.{Picked}
use Rattle.group_model.specs.Brokers.{Broker, outstanding}
use Rattle.group_model.specs.Acceptance.{Accepted, accept, plan_of_accepted}
use Rattle.group_model.specs.Desks.{QueuedPlan}
use Rattle.group_model.specs.Queues.{first_plan}
use Rattle.plan_apply.specs.declared.accepted.Accepted.{Accepted as AnyAccepted}
use Rattle.plan_apply.specs.Answers.{kept_by}
use Rattle.leader.specs.declared.judged.JudgedPlan.{JudgedPlan}
use Rattle.leader.specs.OpenDesks.{OpenDesk, Answered}

-- what is kept of a plan at a state: first the pair must be outstanding
abbrev pub verdict_for : State → Plan → Result ℕ Refusal → Result Accepted Refusal
verdict_for projected p (Err r) = Err r
verdict_for projected p (Ok wait) = accept projected p wait

abbrev pub verdict : State → Broker → Plan → Result Accepted Refusal
verdict projected b p = verdict_for projected p (outstanding p.eval p.token b)

-- a plan that was taken out of the queue, and what is kept of it
pub record Judged : Type 0 where
  pub queued : QueuedPlan
  pub kept : Result Accepted Refusal

-- as a call answers it, and the plan that is proposed is that of what is kept
abbrev pub kept_or : Result AnyAccepted Refusal → Result Accepted Refusal
kept_or (Err r) = Err r
kept_or (Ok a) = Ok (kept_by a)

abbrev pub judged_by : JudgedPlan → Judged
judged_by j = record { queued = j.queued; kept = kept_or j.kept }

abbrev pub IsProposal : JudgedPlan → Type 0
IsProposal j = IfOk j.kept (λ a. a.plan ≡ plan_of_accepted j.queued.plan (kept_by a))

-- Plan turn: the first plan leaves the queue, whatever becomes of it.
abbrev pub once_picked : State → OpenDesk → Option (Picked QueuedPlan) → Option Judged × OpenDesk
once_picked projected o None = (None, o)
once_picked projected o (Some p) = (
  Some (record { queued = p.one; kept = verdict projected o.desk.broker p.one.plan }),
  record o { desk = record o.desk { plans = p.others } },
)

abbrev pub on_plan_turn : State → OpenDesk → Answered (Option Judged)
on_plan_turn projected o = Ok (once_picked projected o (first_plan o.desk.plans))

-- A plan waits, and the one that goes first passes: its pair is outstanding, and the check refuses
-- it for nothing.
abbrev pub first_passes : State → OpenDesk → Bool
first_passes projected o =
    is_some_and (λ (p : Picked QueuedPlan). is_ok (verdict projected o.desk.broker p.one.plan))
    (first_plan o.desk.plans)
