-- What is told of a way back, as text.
use Rattle.std.specs.Prelude.{◌+◌, ◌++◌, ℕ, List, [], ◌∷◌, codes, decimal, map}
use Rattle.std.specs.List.{flat_map}
use Rattle.sim_playback.specs.Lines.{lines_text}
use Rattle.sim_report_lines.specs.Grids.{aligned_lines}
use Rattle.sim_recovery.specs.declared.counts.Counts.{Counts}
use Rattle.sim_recovery.specs.declared.table.WayRow.{WayRow}

-- ---- from one moment

-- `restarts R timeouts T beats B messages M events E`
abbrev pub counts_line : Counts → List ℕ
counts_line c =
    codes "restarts " ++ (decimal c.restarts ++ (codes " timeouts " ++ (decimal c.timeouts ++ (codes " beats "
    ++ (decimal c.beats ++ (codes " messages " ++ (decimal c.messages ++ (codes " events "
    ++ (decimal c.events ++ codes "\n")))))))))

abbrev pub head_text : (after all who : ℕ) → List ℕ
head_text after all who =
    codes "after " ++ (decimal after ++ (codes " of " ++ (decimal all ++ (codes " events\nleader " ++ (decimal (who + 1) ++ codes "\n")))))

-- a step between quotes, as it stands in a scenario; nothing in it is escaped
abbrev pub step_form : List ℕ → List ℕ
step_form line = codes "\"" ++ (line ++ codes "\"")

-- behind another, with a comma between
abbrev pub next_form : List ℕ → List ℕ
next_form line = codes ",\n" ++ step_form line

-- steps, a line each
abbrev pub steps_text : List (List ℕ) → List ℕ
steps_text [] = []
steps_text (first ∷ others) = step_form first ++ (flat_map next_form others ++ codes "\n")

-- the whole text
abbrev pub recovery_text : (after all who : ℕ) → Counts → List (List ℕ) → List ℕ
recovery_text after all who counts lines = head_text after all who ++ (counts_line counts ++ steps_text lines)

-- ---- from many moments

abbrev pub way_heads : List (List ℕ)
way_heads = codes "after" ∷ codes "restarts" ∷ codes "timeouts" ∷ codes "beats" ∷ codes "messages" ∷ codes "events" ∷ []

abbrev pub way_cells : WayRow → List (List ℕ)
way_cells row =
    let c = row.counts in
    decimal row.after ∷ decimal c.restarts ∷ decimal c.timeouts ∷ decimal c.beats ∷ decimal c.messages ∷ decimal c.events ∷ []

-- a line for each row, in columns that line up, and the farthest moment behind them
abbrev pub table_text : List WayRow → ℕ → List ℕ
table_text rows farthest =
    lines_text (aligned_lines (way_heads ∷ map way_cells rows)) ++ (codes "farthest " ++ (decimal farthest ++ codes "\n"))
