use Rattle.std.proofs.Common.{option_map}
use Rattle.scheduler.specs.Inner.Loads.{load_less}
use Rattle.scheduler.proofs.Best.{BestSoFar}
use Rattle.scheduler.proofs.load.best.Given as goal

abbrev pub invariant-loop-at : goal.invariant-loop-at
invariant-loop-at l = BestSoFar (load_less (option_map (λ r. r.now) l.gone)) l.group l.loads l.is_found l.best l.most l.at
