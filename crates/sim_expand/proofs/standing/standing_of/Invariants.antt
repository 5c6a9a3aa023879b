use Rattle.std.proofs.Common.{◌≡◌, length}
use Rattle.sim_expand.specs.Inner.GroupStandings.{StandFrom}
use Rattle.sim_expand.proofs.standing.standing_of.Given as goal

abbrev pub invariant-loop-position : goal.invariant-loop-position
invariant-loop-position l = record {
  count : length l.servers.items ≡ l.position;
  each : StandFrom l.play 0 l.servers.items;
}
