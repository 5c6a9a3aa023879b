use Rattle.std.proofs.Common.{subst, sym}
use Rattle.sim_recovery.specs.Farthest.{IsFarthest}
use Rattle.sim_recovery.proofs.table.farthest_in.Goals as goal

pub returns : goal.returns
returns c = subst (λ rows. IsFarthest rows c.farthest_of.result) (sym c.in-Some.ensures.cases.0) c.farthest_of.ensures
