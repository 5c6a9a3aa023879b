use Rattle.std.proofs.Common.{ap, inl, inr, map, string_bytes}
use Rattle.sim_recovery.proofs.WaySteps.{plain_up}
use Rattle.sim_recovery.proofs.recovering.election.Goals as goal

pub lines_behind-requires : goal.lines_behind-requires
lines_behind-requires c =
    let old = c.in_ok-world.world in
    let settled = c.in-Ok.ensures.ok in (
      settled.went.0,
      record {
        old = old.trace;
        count = c.past-before.ensures;
        trace = settled.went.1.trace;
        steps = plain_up old c.settle_group.new.world c.in-Ok.field-0 c.one_list.ensures settled;
      },
    )

pub returns-in-Ok-clause-lines : goal.returns-in-Ok-clause-lines
returns-in-Ok-clause-lines c =
    let old = c.in_ok-world.world in
    let settled = c.in-Ok.ensures.ok in
    let told = c.in_ok-lines_behind-in-Ok.ensures settled.went.0 (record {
      old = old.trace;
      count = c.past-before.ensures;
      trace = settled.went.1.trace;
      steps = plain_up old c.settle_group.new.world c.in-Ok.field-0 c.one_list.ensures settled;
    }) in (
      old,
      c.in_ok-world.ensures.moment,
      inl (
        c.in-Ok.field-0,
        settled.went.0,
        record { back = c.settle_group.new.world; settled = settled; trace = settled.went.1.trace; lines = told.0 },
        told.1,
      ),
    )

pub returns-in-NoQuorum-clause-lines : goal.returns-in-NoQuorum-clause-lines
returns-in-NoQuorum-clause-lines c =
    let why = rw c.in-NoQuorum.is at c.in-Err.ensures.err in
    (c.in_ok-world.world, c.in_ok-world.ensures.moment, inr (ap (map string_bytes) c.new.ensures.items, inl why.0))

pub returns-in-Exhausted-clause-lines : goal.returns-in-Exhausted-clause-lines
returns-in-Exhausted-clause-lines c =
    let why = rw c.in-Exhausted.is at c.in-Err.ensures.err in
    (c.in_ok-world.world, c.in_ok-world.ensures.moment, inr (ap (map string_bytes) c.new-in-Exhausted.ensures.items, inr why.1))
