use Rattle.std.proofs.Common.{◌<◌, length}
use Rattle.journal.specs.Inner.Rests.{IsRest}
use Rattle.journal.specs.Inner.Coming.{CameTo}
use Rattle.journal.proofs.serving.serve.Given as goal

-- how far it has come
abbrev pub invariant-reads : goal.invariant-reads
invariant-reads g l = record {
  room : 0 < length l.buffer.items;
  rest : IsRest l.pending.items;
  came : CameTo g.A.Actor.replay g.A.Actor.part g.A.Actor.turn l.fn.actor l.pending.items l.actor (g.O.Outside.happened l.fn.outside) (g.O.Outside.happened l.outside);
}
