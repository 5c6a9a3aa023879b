use Rattle.std.proofs.Common.{◌∙◌, ◌<◌, ap, arith, length}
use Rattle.sim_expand.specs.Inner.Deliveries.{passed_over}
use Rattle.sim_expand.proofs.TakenOut.{passed_once}
use Rattle.sim_expand.proofs.flowing.take_out.Goals as goal

pub loop-preserved : goal.loop-preserved
loop-preserved c =
    let others = c.args.messages.now in
    let was = c.loop.invariant in
    let inside : c.loop.counter < length c.args.flight.now.waiting = omega (arith, c.loop-test.true, c.len-end.ensures) in
    record {
      waiting = c.in_ok-pass_over.ensures.passed ∙ ap (passed_over others) was.waiting ∙ passed_once others c.args.flight.now.waiting c.loop.counter inside;
      seen = c.in_ok-pass_over.ensures.seen ∙ was.seen;
    }
