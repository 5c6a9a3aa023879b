-- Worked queues: plans of priority 50, 70 and 70; and a queue that fills up.
use Rattle.std.specs.Prelude.{◌≡◌, ℕ, Option, Some, None, Result, Ok, Err, List, [], ◌∷◌, ◌++◌, replicate}
use Rattle.rows.specs.declared.plan.Plan.{Plan}
use Rattle.rows.specs.declared.refusal.Refusal.{Refusal}
use Rattle.rows.specs.declared.refusal.Refusal.TheVariants as refusals
use Rattle.fsm_model.specs.Worked.Words.{web, eval_id}
use Rattle.group_model.specs.Order.{Picked}
use Rattle.group_model.specs.Desks.{QueuedPlan}
use Rattle.group_model.specs.Queues.{queued_plan, plans_with, first_plan}
use Rattle.group_model.specs.Worked.Words.{token}

abbrev pub plan : Plan
plan = record { eval = eval_id 4 0; token = token 1 1; job = web; version = 4; snapshot = 4; stops = []; places = [] }

abbrev pub queued : ℕ → ℕ → QueuedPlan
queued from priority = queued_plan plan priority from

-- the queue once a plan came
abbrev pub or_same : List QueuedPlan → Result (List QueuedPlan) Refusal → List QueuedPlan
or_same old (Ok new) = new
or_same old (Err r) = old

abbrev pub with_plan : QueuedPlan → List QueuedPlan → List QueuedPlan
with_plan w plans = or_same plans (plans_with w plans)

abbrev pub three : List QueuedPlan
three = with_plan (queued 2 70) (with_plan (queued 1 70) (with_plan (queued 0 50) []))

-- the one that goes, and the others
abbrev pub goes : Option (Picked QueuedPlan) → Option QueuedPlan
goes None = None
goes (Some p) = Some p.one

abbrev pub others : Option (Picked QueuedPlan) → List QueuedPlan
others None = []
others (Some p) = p.others

abbrev pub SecondGoes : Type 0
SecondGoes = goes (first_plan three) ≡ Some (queued 1 70)

abbrev pub two : List QueuedPlan
two = others (first_plan three)

abbrev pub ThenThird : Type 0
ThenThird = goes (first_plan two) ≡ Some (queued 2 70)

abbrev pub one : List QueuedPlan
one = others (first_plan two)

abbrev pub ThenFirst : Type 0
ThenFirst = goes (first_plan one) ≡ Some (queued 0 50)

abbrev pub ThenNone : Type 0
ThenNone = first_plan (others (first_plan one)) ≡ None

-- 255 plans wait, then 256
abbrev pub nearly_full : List QueuedPlan
nearly_full = replicate 255 (queued 0 50)

abbrev pub full : List QueuedPlan
full = nearly_full ++ queued 1 70 ∷ []

abbrev pub LastJoins : Type 0
LastJoins = plans_with (queued 1 70) nearly_full ≡ Ok full

abbrev pub OneTooMany : Type 0
OneTooMany = plans_with (queued 2 90) full ≡ Err refusals.QueueFull
