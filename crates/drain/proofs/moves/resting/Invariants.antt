use Rattle.std.proofs.Common.{◌≡◌, ◌-◌, ◌≤◌, ◌++◌, length, take, drop}
use Rattle.drain.proofs.Moving.{resting}
use Rattle.drain.proofs.moves.resting.Given as goal

abbrev pub invariant-loop-row : goal.invariant-loop-row
invariant-loop-row l = record {
  few : length l.ids ≤ 64;
  all : l.ids ++ take (64 - length l.ids) (resting (drop l.row-index l.rows)) ≡ take 64 (resting l.rows);
}
