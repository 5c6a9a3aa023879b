use Rattle.std.proofs.Common.{◌≡◌, ◌∙◌, ◌<◌, ap, ap₂, arith, length, map, string_bytes, take}
use Rattle.std.proofs.lemmas.List.{length-map, length-take-le}
use Rattle.sim_report_lines.specs.Inner.Widths.{with_width}
use Rattle.sim_report_lines.proofs.Widening.{enough, text_at, widened_more}
use Rattle.sim_report_lines.proofs.grid.widen_row.Goals as goal

pub widen-requires : goal.widen-requires
widen-requires c =
    let i = c.loop-column.column in
    let cells = map string_bytes c.args.row.now in
    let many : length cells ≡ length c.args.row.now = length-map c.args.row.now string_bytes in
    let inside : i < length cells = omega arith in
    let wide = enough c.args.widths.now.items (take i cells) in
    omega (arith, length-take-le i cells (omega arith), ap length c.loop-column.invariant, c.loop-column.widths.ok.0)

pub loop-column-preserved : goal.loop-column-preserved
loop-column-preserved c =
    let i = c.loop-column.column in
    let row = c.args.row.now in
    let cell = c.index-row-column.result in
    let many : length (map string_bytes row) ≡ length row = length-map row string_bytes in
    let inside : i < length row = omega arith in
    let size : c.len.result ≡ length (string_bytes cell) = omega (arith, c.len.ensures, cell.bytes.ok.0) in
    c.in_ok-widen.ensures
    ∙ ap₂ (with_width i) size c.loop-column.invariant
    ∙ widened_more c.args.widths.now.items (map string_bytes row) i (string_bytes cell) (omega arith) (text_at row i cell inside c.index-row-column.is)
