use Rattle.std.proofs.Common.{◌≡◌, length, map, take}
use Rattle.sim_draw.specs.Inner.Records.{message_in, delivered_place, KeepsActors}
use Rattle.sim_draw.proofs.record.Record.take_all.Given as goal

abbrev pub invariant-loop-event : goal.invariant-loop-event
invariant-loop-event l = record {
  rows : length l.self.steps.items ≡ l.event-index;
  messages : map message_in l.self.steps.items ≡ map delivered_place (take l.event-index l.events);
  actors : KeepsActors l.initial.self l.self;
}
