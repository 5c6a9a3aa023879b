use Rattle.std.proofs.Common.{◌∙◌, ◌++◌, List, String, Vec, ap, map}
use Rattle.std.specs.declared.alloc.Global.{Global}
use Rattle.sim_report_lines.specs.Grids.{cells_of, loose_line}
use Rattle.sim_tell.proofs.lines.event_lines.Goals as goal

pub returns-clause-lines : goal.returns-clause-lines
returns-clause-lines c =
    let rows = c.in_ok-told.ensures.rows in
    let none = ap (λ (before : List (Vec (String Global) Global)). map cells_of before ++ rows.0) c.new.ensures in (
      rows.0,
      (c.in_ok-world.world, c.in_ok-world.ensures.new, rows.1),
      c.in_ok-lines.ensures.lines ∙ ap (map loose_line) (rows.2 ∙ none),
    )
