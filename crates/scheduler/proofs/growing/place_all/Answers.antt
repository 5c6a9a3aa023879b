use Rattle.std.proofs.Common.{◌≡◌, false, sym, subst, arith, inr}
use Rattle.group_model.specs.Scheduling.{is_full, GoesOn}
use Rattle.group_model.proofs.Subs.{at_item}
use Rattle.scheduler.specs.Inner.Growing.{part_of}
use Rattle.scheduler.proofs.growing.place_all.Goals as goal

pub loop-name-preserved : goal.loop-name-preserved
loop-name-preserved c =
    let p = part_of c.loop-name.plan in
    let here = at_item (λ ws. ws) c.args.names.now c.loop-name.name-index c.name-item.result (omega (arith, c.loop-name-test.true)) c.name-item.is in
    let more : is_full p ≡ false = sym c.if-is_full.ensures in
    record {
      loads = c.in_ok-place.ensures.loads;
      goes_on = λ whole rest. c.loop-name.invariant.goes_on whole
          (subst (λ ws. GoesOn c.args.state.now c.args.job.now p ws whole) (sym here) (inr (more, (part_of c.place.new.plan, c.in_ok-place.ensures.next, rest))));
    }
