use Rattle.std.proofs.Common.{◌≡◌, take}
use Rattle.std.specs.List.{count_by}
use Rattle.sim_draw.specs.Inner.Records.{is_lost}
use Rattle.sim_draw.proofs.record.Record.lost.Given as goal

abbrev pub invariant-loop-sending : goal.invariant-loop-sending
invariant-loop-sending l = l.lost ≡ count_by is_lost (take l.sending-index l.self.sendings.items)
