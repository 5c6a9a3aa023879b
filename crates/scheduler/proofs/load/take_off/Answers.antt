use Rattle.std.proofs.Common.{◌<◌, length, map, option_map, ◌∙◌, arith}
use Rattle.scheduler.specs.Inner.Loads.{load_less}
use Rattle.scheduler.proofs.Lists.{mapped_more, mapped_all}
use Rattle.scheduler.proofs.load.take_off.Goals as goal

pub loop-load-preserved : goal.loop-load-preserved
loop-load-preserved c =
    let f = load_less (option_map (λ r. r.now) c.args.row) in
    let here : c.loop-load.load-index < length c.loop-load.loads = omega (arith, c.loop-load-test.true, c.loop-load.auto.loads) in
    mapped_more f c.loop-load.loads c.loop-load.load-index c.less.result c.load-item.result here c.less.ensures ∙ c.loop-load.invariant

pub returns : goal.returns
returns c =
    let f = load_less (option_map (λ r. r.now) c.args.row) in
    mapped_all f c.loop-load.loads (map f c.args.loads.now) c.loop-load.load-index (omega (arith, c.loop-load-test.false, c.loop-load.auto.loads)) c.loop-load.invariant
