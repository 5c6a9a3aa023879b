use Rattle.std.proofs.Common.{◌≡◌, drop}
use Rattle.std.specs.Prelude.{find}
use Rattle.leader.specs.Inner.Still.{is_blocked_in}
use Rattle.leader.proofs.turns.first_blocked.Given as goal

abbrev pub invariant-loop-id : goal.invariant-loop-id
invariant-loop-id l = find (is_blocked_in l.projected) l.ids ≡ find (is_blocked_in l.projected) (drop l.id-index l.ids)
