use Rattle.std.proofs.Common.{take}
use Rattle.sim_draw.specs.Inner.Layouts.{AreFans, AreSlots}
use Rattle.sim_draw.proofs.layout.slots_of.Given as goal

abbrev pub invariant-loop-sending : goal.invariant-loop-sending
invariant-loop-sending l = record {
  fans : AreFans l.events (take l.sending-index l.sendings) l.fans.items;
  slots : AreSlots l.events (take l.sending-index l.sendings) l.slots.items;
}
