use Rattle.std.proofs.Common.{◌≡◌, ◌+◌, length, map, sym, ap, ◌∙◌, arith}
use Rattle.rows.specs.Keys.{alloc_id}
use Rattle.group_model.specs.Acceptance.{Accepted, on, keep_places}
use Rattle.plan_apply.specs.Inner.Overlay.{kept_so_far, stops_alone}
use Rattle.plan_apply.proofs.Fewness.{all_places, split_places, few_more, next_number}
use Rattle.plan_apply.proofs.nodes.kept_places.Goals as goal

pub loop-before-init : goal.loop-before-init
loop-before-init c =
    let p = c.args.plan.now in
    let most = c.ranges-2.ensures.6.0 in
    let all = all_places 0 p.places in
    let none : length c.new.result ≡ 0 = ap length c.new.ensures in
    record {
      is = λ i. record { stops = map alloc_id c.args.stopped.now; places = c.new.ensures i; refused = c.new-2.ensures i };
      few = omega (arith, most, all, none);
    }

pub keep_number-requires-clause-few_places : goal.keep_number-requires-clause-few_places
keep_number-requires-clause-few_places c =
    let le = c.loop-before.invariant.few in
    let two = split_places c.loop-before.before c.args.plan.now.places in
    omega (arith, le, two)

pub loop-before-preserved : goal.loop-before-preserved
loop-before-preserved c =
    let s = c.args.state.now in
    let j = c.args.job.now in
    let ks = c.args.plan.now.places in
    let n = c.loop-before.before in
    let before = kept_so_far c.args.stopped.now c.loop-before.kept in
    let made = c.in_ok-keep_number.ensures in
    let le = c.loop-before.invariant.few in
    let two = split_places n ks in
    let more = few_more s j (n + 1) before (on (n + 1) ks) in
    let size : length c.keep_number.new.kept.places ≡ length (keep_places s j (n + 1) before (on (n + 1) ks)).places = ap (λ (z : Accepted). length z.places) made in
    record {
      is = made ∙ ap (λ (z : Accepted). keep_places s j (n + 1) z (on (n + 1) ks)) c.loop-before.invariant.is ∙ sym (next_number s j c.args.plan.now (stops_alone (map alloc_id c.args.stopped.now)) n);
      few = omega (arith, le, two, more, size);
    }
