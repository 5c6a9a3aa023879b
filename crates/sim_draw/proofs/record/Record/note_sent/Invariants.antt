use Rattle.std.proofs.Common.{◌≡◌, ◌++◌, ◌-◌, length, map, take, drop}
use Rattle.sim_draw.specs.Inner.Records.{as_sent, KeepsActors}
use Rattle.sim_draw.proofs.record.Record.note_sent.Given as goal

abbrev pub invariant-loop-place : goal.invariant-loop-place
invariant-loop-place l =
    let before = l.initial.self.sendings.items in
    record {
      steps : l.self.steps.items ≡ l.initial.self.steps.items;
      sendings : l.self.sendings.items ≡ before ++ map (as_sent l.initial.self l.from) (take (l.place - length before) (drop (length before) l.sent));
      actors : KeepsActors l.initial.self l.self;
    }
