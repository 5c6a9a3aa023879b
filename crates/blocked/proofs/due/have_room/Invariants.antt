use Rattle.std.proofs.Common.{◌≡◌, nat_lt, drop}
use Rattle.std.specs.List.{list_any}
use Rattle.blocked.specs.Rooms.{room_in}
use Rattle.blocked.proofs.due.have_room.Given as goal

abbrev pub invariant-loop-class : goal.invariant-loop-class
invariant-loop-class l =
    list_any (λ class. nat_lt l.snapshot (room_in l.rooms class)) l.classes ≡ list_any (λ class. nat_lt l.snapshot (room_in l.rooms class)) (drop l.class-index l.classes)
