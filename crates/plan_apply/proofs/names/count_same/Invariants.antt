use Rattle.std.proofs.Common.{◌≡◌, ◌+◌, ◌≤◌, length, filter, drop}
use Rattle.plan_apply.specs.Inner.Names.{same_place}
use Rattle.plan_apply.proofs.names.count_same.Given as goal

abbrev pub invariant-loop-other : goal.invariant-loop-other
invariant-loop-other l = record {
  all : l.count + length (filter (same_place l.place) (drop l.other-index l.places)) ≡ length (filter (same_place l.place) l.places);
  few : l.count ≤ l.other-index;
}
