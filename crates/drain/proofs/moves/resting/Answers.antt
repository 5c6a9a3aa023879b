use Rattle.std.proofs.Common.{◌≡◌, ◌+◌, ◌-◌, ◌<◌, ◌++◌, List, length, take, drop, ap, sym, ◌∙◌, arith}
use Rattle.std.proofs.lemmas.List.{length_push}
use Rattle.rows.specs.declared.allocation.AllocId.{AllocId}
use Rattle.group_model.proofs.Subs.{at_item, one_taken}
use Rattle.drain.proofs.Moving.{resting, resting_row}
use Rattle.drain.proofs.moves.resting.Goals as goal

pub loop-row-preserved : goal.loop-row-preserved
loop-row-preserved c =
    let row = c.row-item.result in
    let ids = c.loop-row.ids in
    let rest = drop (c.loop-row.row-index + 1) c.args.rows.now in
    let here = at_item resting c.args.rows.now c.loop-row.row-index row (omega arith) c.row-item.is in
    let pushed = c.in_ok-push.ensures.ok in
    let longer : length c.push.new.self ≡ length ids + 1 = ap length pushed ∙ length_push ids row.id in
    let below : length ids < 64 = omega arith in
    record {
      few = omega arith;
      all = ap (λ (zs : List AllocId). zs ++ take (64 - length zs) (resting rest)) pushed
          ∙ sym (one_taken 64 ids row.id (resting rest) below)
          ∙ ap (λ more. ids ++ take (64 - length ids) more) (sym (here ∙ resting_row row rest c.if-row.false))
          ∙ c.loop-row.invariant.all;
    }
