use Rattle.std.proofs.Common.{◌≡◌, ◌≤◌, length, sym, ap, ◌∙◌, arith}
use Rattle.plan_apply.proofs.Fewness.{few_sized}
use Rattle.plan_apply.proofs.nodes.kept_where.Goals as goal

pub bears-requires-clause-few_places : goal.bears-requires-clause-few_places
bears-requires-clause-few_places c =
    let few : length c.in-Some-2.more ≤ length c.args.places.now = few_sized c.args.job.now c.in-Some.row.now c.args.places.now c.in-Some-2.more (sym c.in_ok-more.ensures ∙ c.in-Some-2.is) in
    let same : length c.as_slice.result.now ≡ length c.in-Some-2.more = ap length c.as_slice.ensures in
    let le = c.requires.few_places in
    omega (arith, few, same, le)
