use Rattle.std.proofs.Common.{◌≡◌, ◌+◌, take}
use Rattle.rows.specs.Sizes.{Part, amount}
use Rattle.client_agent.specs.Inner.Rooms.{runs_with}
use Rattle.client_agent.proofs.starting.left_beside.Given as goal

abbrev pub invariant-loop-one : goal.invariant-loop-one
invariant-loop-one l = (p : Part) → runs_with (take l.one-index l.running) p + amount p l.left ≡ amount p l.fn.whole
