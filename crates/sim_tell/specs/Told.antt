-- What is told: lines.
use Rattle.std.specs.Prelude.{◌≡◌, ℕ, Option, List, [], ◌∷◌, map, codes}
use Rattle.std.specs.Io.KnownBytes.{Appends}
use Rattle.rows.specs.declared.node.NodeSpec.{NodeSpec}
use Rattle.group_inputs.specs.declared.event.Event.{Event}
use Rattle.sim_report_lines.specs.Grids.{aligned_lines, loose_line}
use Rattle.sim_playback.specs.Lines.{lines_text}
use Rattle.sim_tell.specs.Events.{AreRowsTold}

abbrev pub heads : List (List ℕ)
heads = codes "event" ∷ codes "who" ∷ codes "took" ∷ codes "changed" ∷ codes "sent" ∷ []

-- the lines that are told of these events, which a group of so many servers and of these nodes'
-- clients takes: the row of each
abbrev pub AreEventLines : ℕ → List NodeSpec → List Event → List (List ℕ) → Type 0
AreEventLines servers nodes events lines =
    (rows : List (List (List ℕ))) × AreRowsTold servers nodes events rows × (lines ≡ map loose_line rows)

-- what an output holds, if that is known, is the same and these rows more, behind heads, in columns
-- that line up
abbrev pub GrowsByEventLines : ℕ → List NodeSpec → List Event → Option (List ℕ) → Option (List ℕ) → Type 0
GrowsByEventLines servers nodes events old new =
    (rows : List (List (List ℕ))) × AreRowsTold servers nodes events rows
    × Appends old new (lines_text (aligned_lines (heads ∷ rows)))
