use Rattle.std.proofs.Common.{◌+◌, ◌<◌, ◌&&◌, ◌||◌, length, drop, ap, sym, ◌∙◌, arith}
use Rattle.std.specs.List.{list_any}
use Rattle.rows.specs.declared.allocation.Allocation.{Allocation}
use Rattle.group_model.specs.Drains.{same_group}
use Rattle.group_model.proofs.Subs.{at_item}
use Rattle.fsm_tables.specs.Rows.{put}
use Rattle.drain.specs.Inner.Groups.{job_group_cmp, itself, is_met}
use Rattle.drain.proofs.Groups.{met_more}
use Rattle.drain.proofs.Marking.{marked_row, passed_row}
use Rattle.drain.proofs.marked.add_marked.Goals as goal
use Rattle.drain.proofs.marked.add_marked.Goals.{then-row+in_ok-put, else-row}

pub loop-row-preserved : goal.loop-row-preserved
loop-row-preserved c = λ a.
    let row = c.row-item.result in
    let groups = c.loop-row.groups in
    let marks = λ (b : Allocation). b.migrate && same_group a b in
    let rest = list_any marks (drop (c.loop-row.row-index + 1) c.args.rows.now) in
    let all = is_met c.args.groups.now a || list_any marks c.args.rows.now in
    let lt : c.loop-row.row-index < length c.args.rows.now = omega arith in
    let before = ap (λ b. is_met groups a || b) (sym (at_item (list_any marks) c.args.rows.now c.loop-row.row-index row lt c.row-item.is)) ∙ c.loop-row.invariant a in
    elim c.if-row.branch [
      | then-row+in_ok-put w ↦
          let next = w.in_ok-put.ensures.ok ∙ ap (λ g. put job_group_cmp itself g groups) w.of.ensures in
          ap (λ gs. is_met gs a || rest) (w.groups-is ∙ next) ∙ ap (λ b. b || rest) (met_more row a groups)
          ∙ marked_row (is_met groups a) rest row.migrate (same_group a row) all w.if-row.true before
      | else-row w ↦ ap (λ gs. is_met gs a || rest) w.groups-is ∙ passed_row (is_met groups a) rest row.migrate (same_group a row) all w.if-row.false before
    ]
