use Rattle.std.proofs.Common.{◌≡◌, nat_lt, drop}
use Rattle.std.specs.List.{list_any}
use Rattle.group_model.specs.Blocked.{room_with}
use Rattle.blocked.specs.Rooms.{room_in}
use Rattle.blocked.proofs.due.would_have_room.Given as goal

abbrev pub invariant-loop-other : goal.invariant-loop-other
invariant-loop-other l =
    list_any (λ class. nat_lt l.snapshot (room_with l.class l.index (room_in l.rooms) class)) l.classes
    ≡ list_any (λ class. nat_lt l.snapshot (room_with l.class l.index (room_in l.rooms) class)) (drop l.other-index l.classes)
