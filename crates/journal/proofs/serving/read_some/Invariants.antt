use Rattle.std.proofs.Common.{◌≡◌, [], length}
use Rattle.journal.specs.Histories.{GoesOnBy}
use Rattle.journal.proofs.serving.read_some.Given as goal

-- nothing has happened
abbrev pub invariant-tries : goal.invariant-tries
invariant-tries g l = record {
  same : length l.buffer ≡ length l.fn.buffer;
  happened : GoesOnBy (g.O.Outside.happened l.fn.outside) (g.O.Outside.happened l.outside) [];
}
