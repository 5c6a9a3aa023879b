-- Which of the steps that would be of use comes first.
use Rattle.std.specs.Prelude.{ℕ, Bool, if◌then◌else◌, Option, Some, None}
use Rattle.sim_expand.specs.declared.settling.Left.{Left}
use Rattle.sim_expand.specs.declared.settling.Left.TheVariants.{Plan, Beat, Take, Pull}
use Rattle.sim_expand.specs.declared.settling.Uses.{Uses}

-- the last ones: clients ask for their lists, and then others are told what is applied
abbrev pub last_of : Uses → ℕ → Bool → Option Left
last_of uses server news =
    if uses.pull then Some (Pull server news) else if uses.tell then Some (Beat server) else None

-- a plan is weighed, what is not applied is sent, and an evaluation is asked for, before all others
abbrev pub first_of : Uses → ℕ → Bool → Option Left
first_of uses server news =
    if uses.plan then Some (Plan server)
    else if uses.commit then Some (Beat server)
    else if uses.take then Some (Take server)
    else last_of uses server news
