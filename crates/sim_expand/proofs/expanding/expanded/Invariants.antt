use Rattle.std.proofs.Common.{◌≡◌, ◌≤◌, ℕ, false, [], length, map, string_bytes, take}
use Rattle.sim_expand.specs.Counts.{AreMost}
use Rattle.sim_expand.specs.EachInTurn.{OfEachBehind}
use Rattle.sim_expand.specs.Expanded.{LinesOf}
use Rattle.sim_expand.specs.Inner.Taking.{StandsAsTaken}
use Rattle.sim_expand.specs.ShortSteps.{has_elect, short_step}
use Rattle.sim_expand.proofs.expanding.expanded.Given as goal

-- the steps so far were taken
abbrev pub invariant-loop-step : goal.invariant-loop-step
invariant-loop-step l = record {
  settings : l.taken.settings ≡ l.fn.settings;
  nodes : l.taken.nodes.now ≡ l.nodes;
  behind : l.taken.behind ≡ has_elect (map short_step (take l.step-index l.steps));
  stands : StandsAsTaken l.taken;
  few : (most : ℕ) → AreMost false (map short_step (take l.step-index l.steps)) most → length l.taken.lines.items ≤ most;
  order : OfEachBehind (LinesOf l.fn.settings l.nodes) [] [] (map short_step (take l.step-index l.steps)) (map string_bytes l.taken.lines.items);
}
