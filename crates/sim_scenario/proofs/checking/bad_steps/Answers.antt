use Rattle.std.proofs.Common.{◌≡◌, ◌+◌, ◌<◌, arith, length, rules, string_bytes, subst}
use Rattle.sim_scenario.specs.Complaints.{AreLineComplaints}
use Rattle.sim_scenario.proofs.EachLine.{of_one_more_step}
use Rattle.sim_scenario.proofs.checking.bad_steps.Goals as goal

pub loop-line-preserved : goal.loop-line-preserved
loop-line-preserved c =
    let steps = c.args.scenario.now.steps.items in
    let i = c.loop-line.line-index in
    let inside : i < length steps = search rules in
    let at = rw c.deref-line-items.ensures.value at c.line-item.is in
    let own = c.in_ok-judge_line.ensures in
    let counted : c.loop-line.number + 1 ≡ i + 1 = omega arith in
    let judged = rw c.as_str.ensures.value at own.1 in
    record {
      number = counted;
      found = rw own.2
          (of_one_more_step AreLineComplaints steps i c.line-item.result _ own.0 c.loop-line.invariant.found inside at
          (subst (λ n. AreLineComplaints n (string_bytes c.line-item.result) own.0) counted judged));
    }
