use Rattle.std.proofs.Common.{refl, subst}
use Rattle.sim_recovery.specs.Inner.Backs.{IsBack}
use Rattle.sim_recovery.specs.Steps.{AreCounts}
use Rattle.sim_recovery.proofs.WaySteps.{way_of}
use Rattle.sim_recovery.proofs.table.row_at.Goals as goal

pub returns-clause-row : goal.returns-clause-row
returns-clause-row c =
    let back = subst (λ es. IsBack c.args.servers c.args.nodes.now es c.in_ok-back.back) c.first_of.ensures c.in_ok-back.ensures.back in
    let same = c.taken_behind.ensures back.taken back.came in
    record {
      is_after = refl;
      who = c.in_ok-back.back.leader;
      taken = back.taken;
      way = way_of _ _ _ c.in_ok-back.back c.counts_of-counts.result back (subst (λ es. AreCounts es c.counts_of-counts.result) same c.counts_of-counts.ensures);
    }
