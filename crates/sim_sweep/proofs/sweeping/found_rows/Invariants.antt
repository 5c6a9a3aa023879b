use Rattle.std.proofs.Common.{◌≡◌, length, take}
use Rattle.std.specs.List.{All}
use Rattle.sim_sweep.specs.Inner.Found.{AreFound, ArePlaced}
use Rattle.sim_sweep.proofs.sweeping.found_rows.Given as goal

-- what the workers so far brought stands at its places, of which there is one for each key
abbrev pub invariant-loop-rows : goal.invariant-loop-rows
invariant-loop-rows l = record {
  found : AreFound l.task.scenario.now l.task.settings l.task.first l.found.items;
  size : length l.found.items ≡ l.task.count;
  put : All (λ rows. ArePlaced rows.items l.found.items) (take l.rows-index l.brought);
}
