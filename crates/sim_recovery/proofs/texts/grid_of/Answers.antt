use Rattle.std.proofs.Common.{◌∙◌, ◌<◌, ◌++◌, ◌∷◌, [], List, String, Vec, ℕ, ap, get_or, length, map, rules, sym, take}
use Rattle.std.specs.declared.alloc.Global.{Global}
use Rattle.std.proofs.lemmas.List.{get_or_default, map-append}
use Rattle.sim_report_lines.specs.Grids.{cells_of}
use Rattle.event_texts.proofs.Records.{map_more}
use Rattle.sim_recovery.proofs.Greatest.{zero_row}
use Rattle.sim_recovery.specs.Tables.{way_cells, way_heads}
use Rattle.sim_recovery.proofs.texts.grid_of.Goals as goal

pub loop-row-init : goal.loop-row-init
loop-row-init c =
    let first = c.in_ok-first.first in
    let alone =
    c.in_ok-push.ensures.items
    ∙ ap (λ (before : List (Vec (String Global) Global)). before ++ first ∷ []) c.new-grid.ensures in
    ap (map cells_of) alone ∙ ap (λ (row : List (List ℕ)). row ∷ []) c.in_ok-first.ensures

pub loop-row-preserved : goal.loop-row-preserved
loop-row-preserved c =
    let rows = c.args.rows.now in
    let i = c.loop-row.row-index in
    let row = get_or rows i zero_row in
    let lt : i < length rows = search rules in
    let old = c.loop-row.grid.rows.items in
    let own = c.in_ok-own.own in
    ap (map cells_of) c.in_ok-push-2.ensures.items
    ∙ map-append cells_of old (own ∷ [])
    ∙ ap (λ (xs : List (List (List ℕ))). xs ++ cells_of own ∷ []) c.loop-row.invariant
    ∙ ap (λ (cell : List (List ℕ)). (way_heads ∷ map way_cells (take i rows)) ++ cell ∷ []) c.in_ok-own.ensures
    ∙ ap (λ (xs : List (List (List ℕ))). way_heads ∷ xs) (sym (map_more way_cells rows i row lt (get_or_default rows i zero_row row lt)))
