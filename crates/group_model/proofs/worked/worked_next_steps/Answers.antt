use Rattle.std.proofs.Common.{true, false, [], ◌∷◌, refl, inr}
use Rattle.group_model.specs.Worked.Scheduling.{on_node, plan}
use Rattle.group_model.proofs.WorkedPlans.{fits_once, nothing_more}
use Rattle.group_model.proofs.worked.worked_next_steps.Goals as goal

pub returns-clause-submits : goal.returns-clause-submits
returns-clause-submits c = inr (refl, inr (refl, (plan 3 4 [] (on_node 0 1 ∷ []) false, fits_once, refl)))

pub returns-clause-blocks : goal.returns-clause-blocks
returns-clause-blocks c = inr (refl, inr (refl, (plan 3 5 [] [] false, nothing_more, refl)))

pub returns-clause-completes : goal.returns-clause-completes
returns-clause-completes c = inr (
  refl,
  inr (
    refl,
    (
      plan 0 5 [] [] true,
      record {
        whole = record { stops = []; places = [] };
        goes_on = refl;
        stops = refl;
        places = refl;
        version = refl;
        snapshot = refl;
        all_placed = refl;
      },
      refl,
    ),
  ),
)
