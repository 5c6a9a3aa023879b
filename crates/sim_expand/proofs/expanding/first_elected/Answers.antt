use Rattle.std.proofs.Common.{◌≤◌, arith, length, rules, sym}
use Rattle.std.proofs.lemmas.List.{take_all}
use Rattle.sim_expand.proofs.expanding.first_elected.Goals as goal

pub returns-in-None : goal.returns-in-None
returns-in-None c =
    let past : length c.args.lines.now ≤ 10000 = search (rules, arith) in
    sym (take_all 10000 c.args.lines.now past)
