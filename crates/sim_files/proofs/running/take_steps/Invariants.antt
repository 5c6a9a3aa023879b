use Rattle.std.proofs.Common.{◌≡◌, ◌≤◌, ◌++◌, length, map, string_bytes, take}
use Rattle.std.specs.Vec.Iter.{into_iter_items, into_iter_len}
use Rattle.sim_files.specs.Plays.{TellsLines}
use Rattle.sim_files.proofs.running.take_steps.Given as goal

-- what became of the steps so far
abbrev pub invariant-loop-step : goal.invariant-loop-step
invariant-loop-step g l = record {
  split : l.yielded ++ into_iter_items l.step-iterator ≡ l.fn.steps.items;
  left : into_iter_len l.step-iterator ≡ length (into_iter_items l.step-iterator);
  counted : l.place ≡ length l.yielded;
  most : l.status ≤ 1;
  quiet : l.status ≡ 0 → l.out ≡ l.fn.out;
  told : TellsLines g.S.Stage.Takes g.S.Stage.Refuses (map string_bytes (take l.place l.lines)) l.fn.stage l.stage l.status
      (g.W.Write.contents l.fn.out) (g.W.Write.contents l.out);
}
