use Rattle.std.proofs.Common.{◌≡◌, drop}
use Rattle.std.specs.Prelude.{find}
use Rattle.leader.specs.Inner.Still.{stands_pending}
use Rattle.leader.proofs.turns.first_pending.Given as goal

abbrev pub invariant-loop-urgency : goal.invariant-loop-urgency
invariant-loop-urgency l = find (stands_pending l.projected) l.urgencies ≡ find (stands_pending l.projected) (drop l.urgency-index l.urgencies)
