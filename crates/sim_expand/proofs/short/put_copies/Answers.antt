use Rattle.std.proofs.Common.{◌<◌, ◌≤◌, length, rules}
use Rattle.std.proofs.lemmas.List.{take_all}
use Rattle.sim_expand.proofs.Shorts.{put_more}
use Rattle.sim_expand.proofs.short.put_copies.Goals as goal

pub loop-step-preserved : goal.loop-step-preserved
loop-step-preserved c =
    let own = c.args.own.now in
    let i = c.loop-step.step-index in
    let inside : i < length own = search rules in
    put_more own i c.step-item.result _ _ _ inside c.step-item.is c.loop-step.invariant c.in_ok-put_copy.ensures

pub returns : goal.returns
returns c =
    let own = c.args.own.now in
    let i = c.loop-step.step-index in
    let past : length own ≤ i = search rules in
    rw take_all at c.loop-step.invariant
