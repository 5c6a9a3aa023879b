use Rattle.std.proofs.Common.{◌≡◌, ◌≢◌, Ok, arith, rules}
use Rattle.rows.specs.declared.refusal.Refusal.TheVariants as refusals
use Rattle.world.specs.declared.done.Done.TheVariants.{Taken}
use Rattle.sim_playback.proofs.group.hand_event.Goals as goal

pub returns-in-Ok-Taken : goal.returns-in-Ok-Taken
returns-in-Ok-Taken c =
    let is : c.step-done.result ≡ Ok Taken = search rules in
    record {
      between = c.step-done.new.self;
      done = rw is at c.step-done.ensures.ok;
      rest = c.take_work-work.ensures.rest;
    }

pub returns : goal.returns
returns c =
    let known : c.in-Err.refusal ≢ refusals.NoMemory = grind (arith, c.eq.ensures, c.if-eq.false) in
    record {
      refusal = c.in-Err.refusal;
      known = known;
      number_is = c.number.ensures;
      cause = c.in-Err.ensures.cause known;
      between = c.step-done.new.self;
      same = c.in-Err.ensures.err;
      rest = c.take_work-work.ensures.rest;
    }
