use Rattle.std.proofs.Common.{◌≡◌, ◌+◌, ◌-◌, ◌<◌, ◌++◌, ◌∷◌, [], List, length, take, drop, ap, sym, ◌∙◌, arith}
use Rattle.std.proofs.lemmas.List.{length_push}
use Rattle.rows.specs.declared.allocation.AllocId.{AllocId}
use Rattle.fsm_tables.specs.Rows.{put}
use Rattle.group_model.proofs.Subs.{at_item, one_taken}
use Rattle.drain.specs.Inner.Groups.{job_group, job_group_cmp, itself}
use Rattle.drain.proofs.Moving.{ids_left, none_met, met_row, moving_row, staying_row}
use Rattle.drain.proofs.moves.first_of_groups.Goals as goal

pub loop-row-init : goal.loop-row-init
loop-row-init c =
    let empty : length c.new-ids.result ≡ 0 = ap length c.new-ids.ensures in
    record {
      marked = c.none-marked.ensures c.args.state.now.allocs;
      few = omega arith;
      all = ap (λ ids. ids ++ take (64 - length ids) (ids_left c.args.state.now c.empty-met.result c.args.rows.now)) c.new-ids.ensures
          ∙ ap (λ groups. take 64 (ids_left c.args.state.now groups c.args.rows.now)) c.empty-met.ensures
          ∙ ap (take 64) (none_met c.args.state.now c.args.rows.now);
    }

pub loop-row-preserved-then-is_met : goal.loop-row-preserved-then-is_met
loop-row-preserved-then-is_met c =
    let s = c.args.state.now in
    let groups = c.loop-row.met in
    let ids = c.loop-row.ids in
    let rest = drop (c.loop-row.row-index + 1) c.args.rows.now in
    let here = at_item (ids_left s groups) c.args.rows.now c.loop-row.row-index c.row-item.result (omega arith) c.row-item.is in
    let met = sym c.is_met.ensures ∙ c.if-is_met.true in
    record {
      marked = c.loop-row.invariant.marked;
      few = c.loop-row.invariant.few;
      all = ap (λ more. ids ++ take (64 - length ids) more) (sym (here ∙ met_row s groups c.row-item.result rest met)) ∙ c.loop-row.invariant.all;
    }

pub loop-row-preserved-then-branch : goal.loop-row-preserved-then-branch
loop-row-preserved-then-branch c =
    let s = c.args.state.now in
    let groups = c.loop-row.met in
    let row = c.row-item.result in
    let ids = c.loop-row.ids in
    let rest = drop (c.loop-row.row-index + 1) c.args.rows.now in
    let here = at_item (ids_left s groups) c.args.rows.now c.loop-row.row-index row (omega arith) c.row-item.is in
    let met = sym c.is_met.ensures ∙ c.if-is_met.false in
    let next = c.in_ok-put.ensures.ok ∙ ap (λ g. put job_group_cmp itself g groups) c.of.ensures in
    let moving = sym c.in_ok-group_moves.ensures.moves ∙ c.if-branch.true in
    record {
      marked = c.in_ok-group_moves.ensures.marked;
      few = c.loop-row.invariant.few;
      all = ap (λ more. ids ++ take (64 - length ids) (ids_left s more rest)) next
          ∙ ap (λ more. ids ++ take (64 - length ids) more) (sym (here ∙ moving_row s groups row rest met moving))
          ∙ c.loop-row.invariant.all;
    }

pub loop-row-preserved : goal.loop-row-preserved
loop-row-preserved c =
    let s = c.args.state.now in
    let groups = c.loop-row.met in
    let row = c.row-item.result in
    let ids = c.loop-row.ids in
    let rest = drop (c.loop-row.row-index + 1) c.args.rows.now in
    let here = at_item (ids_left s groups) c.args.rows.now c.loop-row.row-index row (omega arith) c.row-item.is in
    let met = sym c.is_met.ensures ∙ c.if-is_met.false in
    let next = c.in_ok-put.ensures.ok ∙ ap (λ g. put job_group_cmp itself g groups) c.of.ensures in
    let staying = sym c.in_ok-group_moves.ensures.moves ∙ c.if-branch.false in
    let pushed = c.in_ok-push.ensures.ok in
    let longer : length c.push.new.self ≡ length ids + 1 = ap length pushed ∙ length_push ids row.id in
    let below : length ids < 64 = omega arith in
    record {
      marked = c.in_ok-group_moves.ensures.marked;
      few = omega arith;
      all = ap (λ (zs : List AllocId). zs ++ take (64 - length zs) (ids_left s c.put.new.self rest)) pushed
          ∙ ap (λ more. (ids ++ row.id ∷ []) ++ take (64 - length (ids ++ row.id ∷ [])) (ids_left s more rest)) next
          ∙ sym (one_taken 64 ids row.id (ids_left s (put job_group_cmp itself (job_group row) groups) rest) below)
          ∙ ap (λ more. ids ++ take (64 - length ids) more) (sym (here ∙ staying_row s groups row rest met staying))
          ∙ c.loop-row.invariant.all;
    }
