use Rattle.std.proofs.Common.{◌+◌, ◌*◌, ◌<◌, inr, refl, rules}
use Rattle.sim_expand.proofs.Shorts.{put_behind, too_many_bytes, too_many_steps}
use Rattle.sim_expand.proofs.short.put_repeated.Goals as goal

pub returns-in_default-clause-refused : goal.returns-in_default-clause-refused
returns-in_default-clause-refused c steps of =
    let many : 1_000_000 < c.args.total.now.count + c.args.times * c.args.own.count = search rules in
    inr (refl, λ before is. too_many_steps c.args.total.now c.args.own c.args.times before steps is of.0 many)

pub returns-in_default-sum_within-clause-refused : goal.returns-in_default-sum_within-clause-refused
returns-in_default-sum_within-clause-refused c steps of =
    let many : 33_554_432 < c.args.total.now.bytes + c.args.times * c.args.own.bytes = search rules in
    inr (refl, λ before is. too_many_bytes c.args.total.now c.args.own c.args.times before steps is of.0 many)

pub returns-clause-put : goal.returns-clause-put
returns-clause-put c steps of before is =
    put_behind c.args.total.now c.args.own _ c.args.times _ before steps of is c.in-Some.ensures c.in-Some-sum_within.ensures c.in_ok-keep_repeated.ensures
