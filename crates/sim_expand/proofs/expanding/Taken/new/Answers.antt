use Rattle.std.proofs.Common.{◌≡◌, [], ap, arith, length, refl, rules}
use Rattle.sim_expand.proofs.Taking.{none_taken}
use Rattle.sim_expand.proofs.expanding.Taken.new.Goals as goal

pub returns-clause-stands : goal.returns-clause-stands
returns-clause-stands c =
    let none : c.new.result.items ≡ [] = search rules in
    let count : length c.new.result.items ≡ 0 = ap length none in
    record {
      other = c.in_ok-new.field-0;
      led = rw none (none_taken c.args.settings c.args.nodes.now c.in_ok-new.field-0 c.in_ok-new.ensures.ok);
      beside = refl;
      few = omega arith;
    }
