use Rattle.std.proofs.Common.{subst}
use Rattle.sim_recovery.specs.Steps.{AreCounts}
use Rattle.sim_recovery.proofs.WaySteps.{way_of}
use Rattle.sim_recovery.proofs.recovering.recovery_of.Goals as goal

pub lines_behind-requires : goal.lines_behind-requires
lines_behind-requires c =
    let back = c.in_ok-back.ensures.back in
    (back.taken, back.came)

pub returns-clause-told : goal.returns-clause-told
returns-clause-told c =
    let back = c.in_ok-back.ensures.back in
    let same = c.taken_behind.ensures back.taken back.came in
    record {
      taken = back.taken;
      way = way_of _ _ _ c.in_ok-back.back c.counts_of-counts.result back (subst (λ es. AreCounts es c.counts_of-counts.result) same c.counts_of-counts.ensures);
      lines = (c.in_ok-lines.ensures back.taken back.came).1;
    }
