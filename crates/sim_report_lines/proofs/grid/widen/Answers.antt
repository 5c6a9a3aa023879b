use Rattle.std.proofs.Common.{◌∙◌, ◌<◌, ap, arith, length, max, slice_set}
use Rattle.std.proofs.lemmas.List.{get_or_read}
use Rattle.sim_report_lines.proofs.Widening.{width_behind, width_within}
use Rattle.sim_report_lines.proofs.grid.widen.Goals as goal

pub returns-then-column-len : goal.returns-then-column-len
returns-then-column-len c =
    let widths = c.args.widths.now in
    let within : c.args.column < length widths.items = omega (arith, widths.ok.0) in
    ap (slice_set widths.items c.args.column)
    (c.max-wide.ensures ∙ ap (λ wide. max wide c.args.width) (get_or_read widths.items _ _ within c.index.ensures 0))
    ∙ width_within widths.items c.args.column c.args.width within

pub returns : goal.returns
returns c =
    let widths = c.args.widths.now in
    c.in_ok-push.ensures.items ∙ width_behind widths.items c.args.column c.args.width (omega (arith, widths.ok.0))
