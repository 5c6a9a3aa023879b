use Rattle.std.proofs.Common.{◌∙◌, ◌++◌, ◌∷◌, [], List, String, Vec, ℕ, ap, map}
use Rattle.std.specs.declared.alloc.Global.{Global}
use Rattle.sim_report_lines.specs.Grids.{aligned_lines, cells_of}
use Rattle.sim_tell.proofs.lines.told_lines.Goals as goal

pub returns : goal.returns
returns c =
    let rows = c.in_ok-told.ensures.rows in
    let lines = c.in_ok-lines.ensures.lines in
    let first = c.in_ok-first.first in
    let alone =
    c.in_ok-push.ensures.items
    ∙ ap (λ (before : List (Vec (String Global) Global)). before ++ first ∷ []) c.new-grid.ensures in
    let front = ap (map cells_of) alone ∙ ap (λ (row : List (List ℕ)). row ∷ []) c.in_ok-first.ensures in (
      rows.0,
      rows.1,
      lines ∙ ap aligned_lines (rows.2 ∙ ap (λ (all : List (List (List ℕ))). all ++ rows.0) front),
    )
