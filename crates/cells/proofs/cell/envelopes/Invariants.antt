use Rattle.std.proofs.Common.{◌≡◌}
use Rattle.std.specs.Prelude.{take}
use Rattle.cells.specs.Inner.Sending.{last_envelopes}
use Rattle.cells.proofs.cell.envelopes.Given as goal

abbrev pub invariant-loop-place : goal.invariant-loop-place
invariant-loop-place g l = (l.seat ≡ l.initial.seat) × (l.sent.items ≡ take l.place (last_envelopes l.initial.seat.notes))
