use Rattle.std.proofs.Common.{◌≤◌}
use Rattle.runner.specs.Inner.Runs.{ShowsSome}
use Rattle.runner.proofs.sweeping.show_each.Given as goal

-- each turn plays under one key or more, and the rows so far are shown
abbrev pub invariant-loop : goal.invariant-loop
invariant-loop g l = record {
  many : l.counter ≤ l.done;
  most : l.done ≤ l.fn.words.keys.count;
  shown : ShowsSome l.scenario l.fn.settings l.fn.words.keys.first l.done (g.W.Write.contents l.fn.out) (g.W.Write.contents l.out);
}
