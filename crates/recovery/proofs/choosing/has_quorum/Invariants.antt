use Rattle.std.proofs.Common.{◌≤◌}
use Rattle.recovery.specs.Inner.Drives.{Ever}
use Rattle.recovery.proofs.Picks.{CountIs}
use Rattle.recovery.proofs.choosing.has_quorum.Given as goal

abbrev pub invariant-loop-position : goal.invariant-loop-position
invariant-loop-position g l = Ever g.D.Driven.drive l.world (λ w. CountIs l.up l.position w) × (l.up ≤ l.position)
