use Rattle.std.proofs.Common.{◌≡◌, None, drop}
use Rattle.std.specs.List.{fold}
use Rattle.sim_inspect.specs.Inner.Deliveries.{later}
use Rattle.sim_inspect.proofs.deliveries.last_of.Given as goal

abbrev pub invariant-loop-one : goal.invariant-loop-one
invariant-loop-one l = fold (later l.eval) l.last (drop l.one-index l.sent) ≡ fold (later l.eval) None l.sent
