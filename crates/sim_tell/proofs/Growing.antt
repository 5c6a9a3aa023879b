-- An output grows by the rows that are told.
use Rattle.std.proofs.Common.{◌≡◌, ℕ, List, ◌∷◌, Option, Result, Ok, Err, OnOk, subst}
use Rattle.std.specs.Io.KnownBytes.{Appends}
use Rattle.rows.specs.declared.node.NodeSpec.{NodeSpec}
use Rattle.group_inputs.specs.declared.event.Event.{Event}
use Rattle.sim_report_lines.specs.Grids.{aligned_lines}
use Rattle.sim_playback.specs.Lines.{lines_text}
use Rattle.sim_tell.specs.Events.{AreRowsTold}
use Rattle.sim_tell.specs.Told.{GrowsByEventLines, heads}

pub grows : {A E : Type 0} (r : Result A E) (servers : ℕ) (nodes : List NodeSpec) (events : List Event) (old new : Option (List ℕ))
    (lines : List (List ℕ)) (rows : List (List (List ℕ)))
    → AreRowsTold servers nodes events rows → lines ≡ aligned_lines (heads ∷ rows)
    → OnOk r (Appends old new (lines_text lines)) → OnOk r (GrowsByEventLines servers nodes events old new)
grows (Ok a) servers nodes events old new lines rows told are printed = (
  rows,
  told,
  subst (λ (all : List (List ℕ)). Appends old new (lines_text all)) are printed,
)
grows (Err e) servers nodes events old new lines rows told are printed = tt
