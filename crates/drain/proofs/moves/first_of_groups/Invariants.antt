use Rattle.std.proofs.Common.{◌≡◌, ◌-◌, ◌≤◌, [], ◌++◌, length, take, drop}
use Rattle.group_model.specs.Drains.{firsts}
use Rattle.drain.specs.Inner.Groups.{first_stays, AreMarked}
use Rattle.drain.proofs.Moving.{ids_left}
use Rattle.drain.proofs.moves.first_of_groups.Given as goal

abbrev pub invariant-loop-row : goal.invariant-loop-row
invariant-loop-row l = record {
  marked : AreMarked l.state.allocs l.marked;
  few : length l.ids ≤ 64;
  all : l.ids ++ take (64 - length l.ids) (ids_left l.state l.met (drop l.row-index l.rows)) ≡ first_stays l.state (firsts [] l.rows);
}
