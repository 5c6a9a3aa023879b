use Rattle.std.proofs.Common.{◌≡◌, ◌++◌, ◌+◌, ◌-◌, ◌≤◌, max}
use Rattle.std.specs.List.{range_with_len}
use Rattle.sim_play.proofs.flight.Flight.add_sent.Given as goal

abbrev pub invariant-loop-number : goal.invariant-loop-number
invariant-loop-number l =
    (l.fn.self.seen ≤ l.number)
    × (l.number ≤ max l.fn.self.seen l.fn.sent)
    × (l.self.seen ≡ l.fn.self.seen)
    × (l.self.waiting ≡ l.fn.self.waiting ++ range_with_len (l.fn.self.seen + 1) (l.number - l.fn.self.seen))
