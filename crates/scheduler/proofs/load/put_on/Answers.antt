use Rattle.std.proofs.Common.{◌<◌, length, map, ◌∙◌, arith}
use Rattle.scheduler.specs.Inner.Loads.{with_load}
use Rattle.scheduler.proofs.Lists.{mapped_more, mapped_all}
use Rattle.scheduler.proofs.load.put_on.Goals as goal

pub loop-load-preserved : goal.loop-load-preserved
loop-load-preserved c =
    let f = with_load c.args.place.now in
    let here : c.loop-load.load-index < length c.loop-load.loads = omega (arith, c.loop-load-test.true, c.loop-load.auto.loads) in
    mapped_more f c.loop-load.loads c.loop-load.load-index c.more.result c.load-item.result here c.more.ensures ∙ c.loop-load.invariant

pub returns : goal.returns
returns c =
    let f = with_load c.args.place.now in
    mapped_all f c.loop-load.loads (map f c.args.loads.now) c.loop-load.load-index (omega (arith, c.loop-load-test.false, c.loop-load.auto.loads)) c.loop-load.invariant
