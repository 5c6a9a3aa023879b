use Rattle.std.proofs.Common.{inl, inr, refl, sym}
use Rattle.scheduler.specs.Steps.{step_as}
use Rattle.sim_play.proofs.Plays.{down_in}
use Rattle.sim_play.proofs.play.asked.Goals as goal

pub returns-in_default-state : goal.returns-in_default-state
returns-in_default-state c = inl (record { cause = inl (down_in c.args.world.now c.args.server c.in-Some.member.now c.in-Some.ensures c.in_default-state.ensures); asks = refl; rest = refl })

pub returns-in_default-applied : goal.returns-in_default-applied
returns-in_default-applied c = inl (record { cause = inl (down_in c.args.world.now c.args.server c.in-Some.member.now c.in-Some.ensures c.in_default-applied.ensures.value); asks = refl; rest = refl })

pub returns : goal.returns
returns c =
    let of_state = c.in-Some-state.ensures in
    let of_applied = c.in-Some-applied.ensures.value in
    inr (record {
      work = c.in-Some-take.taken.work;
      rest = c.take.new.self.waiting;
      oldest = c.in-Some-take.ensures.oldest;
      step = step_as c.in_ok-step.step;
      next = record {
        view = c.in-Some.member.now;
        at = sym c.in-Some.ensures;
        up = λ s is. (of_state s is).0;
        next = λ s is. rw (← (of_state s is).1, ← (of_applied s is).1, ← c.in-Some-take.ensures.counted) c.in_ok-step.ensures.step;
      };
      made = c.in_ok-go_on.field-0;
      handled = c.in_ok-go_on.ensures.handled;
      asks = c.input_of.ensures;
      waiting = c.in_ok-go_on.ensures.waiting;
      plans = rw c.in-Some-take.ensures.plans at c.in_ok-go_on.ensures.plans;
    })
