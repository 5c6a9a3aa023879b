-- What admission says of what is kept of a plan.
use Rattle.std.specs.Prelude.{◌≡◌, ℕ, ◌+◌, T, Option, Some, None, Ok, length, nat_lt, if◌then◌else◌}
use Rattle.rows.specs.declared.plan.Plan.{Plan}
use Rattle.rows.specs.declared.refusal.Refusal.{Refusal}
use Rattle.rows.specs.declared.refusal.Refusal.TheVariants as refusals
use Rattle.rows.specs.declared.command.Command.TheVariants as commands
use Rattle.rows.specs.Fits.{PlanFits}
use Rattle.fsm_model.specs.Words.{State, eval_of, is_some_and, is_pending}
use Rattle.rows.specs.States.{IsState}
use Rattle.fsm_model.specs.SafeFacts.{Safe}
use Rattle.rows.specs.Limits.{most_allocs}
use Rattle.fsm_model.specs.Admission.{admission}
use Rattle.group_model.specs.Acceptance.{Accepted, accept, plan_of_accepted}

-- the table has no room for the places that are kept
abbrev pub full_for : State → Accepted → Option Refusal
full_for s a =
    if nat_lt most_allocs (length s.allocs + length a.places) then Some refusals.TableFull else None

-- At a safe state, of whose rows and plan each is within its ranges and whose tables are in order,
-- what is kept of a plan of a pending evaluation is admitted, but for a full table.
abbrev pub KeptIsAdmitted : Type 0
KeptIsAdmitted = (s : State) (p : Plan) (wait : ℕ) (a : Accepted)
    → IsState s → Safe s → PlanFits p
    → T (is_some_and (λ e. is_pending e.status) (eval_of p.eval s))
    → accept s p wait ≡ Ok a
    → admission s (commands.Plan (plan_of_accepted p a)) ≡ full_for s a
