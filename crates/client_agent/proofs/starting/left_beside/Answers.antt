use Rattle.std.proofs.Common.{◌≡◌, ◌<◌, length, rules}
use Rattle.rows.specs.Sizes.{less}
use Rattle.client_agent.proofs.Fits.{beside_next}
use Rattle.client_agent.proofs.starting.left_beside.Goals as goal

pub loop-one-preserved : goal.loop-one-preserved
loop-one-preserved c =
    let rs = c.args.running.now in
    let i = c.loop-one.one-index in
    let inside : i < length rs = search rules in
    let rest : c.take-left.result ≡ less c.loop-one.left c.one-item.result.size = search rules in
    rw rest (beside_next c.args.whole.now rs i c.one-item.result c.loop-one.left c.requires inside c.one-item.is c.loop-one.invariant)
