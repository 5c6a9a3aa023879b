use Rattle.sim_recovery.proofs.WaySteps.{plain_all}
use Rattle.sim_recovery.proofs.recovering.back_from.Goals as goal

pub returns-clause-back : goal.returns-clause-back
returns-clause-back c =
    let old = c.in_ok-world.world in
    let settled = c.in_ok-leader.ensures.ok in
    record {
      group = old;
      moment = c.in_ok-world.ensures.moment;
      settled = settled;
      taken = settled.went.0;
      trace = settled.went.1.trace;
      came = record {
        old = old.trace;
        count = c.past-before.ensures;
        trace = settled.went.1.trace;
        steps = plain_all old c.bring_back.new.world c.in_ok-leader.leader c.one_list.ensures settled;
      };
    }
