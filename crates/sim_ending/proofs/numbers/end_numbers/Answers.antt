use Rattle.std.proofs.Common.{Err, arith, refl, rules, ◌≡◌}
use Rattle.std.proofs.lemmas.Grind.{common_steps}
use Rattle.sim_ending.proofs.Leading.{numbers_had}
use Rattle.sim_ending.proofs.Whole.{rows_wanted}
use Rattle.sim_ending.proofs.numbers.end_numbers.Goals as goal

pub returns-in_err-live : goal.returns-in_err-live
returns-in_err-live c =
    let same : c.from_residual.result ≡ Err c.in_err-live.field-0.0 = search rules in
    rw same (rows_wanted c.args.world.now c.one_list.ensures c.in_err-live.ensures.memory)

pub returns : goal.returns
returns c =
    numbers_had c.args.world.now c.one_list.ensures _ c.greatest_term-term.result c.leader_in-leader.result c.get.ensures.value refl c.greatest_term-term.ensures c.leader_in-leader.ensures
    c.in_ok-live.ensures.counts (grind (arith, common_steps)) (search rules)
