use Rattle.std.proofs.Common.{◌≡◌, ◌++◌, drop, take}
use Rattle.sim_expand.specs.Inner.Deliveries.{without}
use Rattle.sim_expand.proofs.flowing.take_out.Given as goal

-- so many were passed over
abbrev pub invariant-loop : goal.invariant-loop
invariant-loop l = record {
  waiting : l.flight.waiting ≡ drop l.counter l.fn.flight.waiting ++ without l.messages (take l.counter l.fn.flight.waiting);
  seen : l.flight.seen ≡ l.fn.flight.seen;
}
