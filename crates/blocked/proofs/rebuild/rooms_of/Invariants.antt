use Rattle.std.proofs.Common.{◌≡◌, ◌≤◌, length, drop}
use Rattle.group_model.specs.Blocked.{room_over}
use Rattle.blocked.specs.Rooms.{room_in}
use Rattle.blocked.proofs.rebuild.rooms_of.Given as goal

abbrev pub invariant-loop-at : goal.invariant-loop-at
invariant-loop-at l = record {
  within : l.at ≤ length l.nodes;
  rooms : room_in l.rooms ≡ room_over (drop l.at l.nodes);
}

abbrev pub decreases-loop-at : goal.decreases-loop-at
decreases-loop-at l = l.at
