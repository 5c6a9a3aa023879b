use Rattle.std.proofs.Common.{◌∙◌, ◌+◌, ◌<◌, length, ap, rules}
use Rattle.sim_draw.proofs.Noting.{same_place, one_row, one_longer}
use Rattle.sim_draw.proofs.record.Record.take_all.Goals as goal

pub loop-event-preserved : goal.loop-event-preserved
loop-event-preserved c =
    let all = c.args.events.now in
    let i = c.loop-event.event-index in
    let lt : i < length all = search rules in
    let event = c.event-item.result in
    let new = c.in_ok-take.ensures.noted in
    let before = c.loop-event.invariant in
    record {
      rows = one_longer _ _ new.step new.steps ∙ ap (λ n. n + 1) before.rows;
      messages = one_row _ _ new.step all i event lt c.event-item.is
          (new.message ∙ same_place event _ c.in_ok-try_clone.ensures.whole) before.messages new.steps;
      actors = (c.in_ok-take.ensures.actors.0 ∙ before.actors.0, c.in_ok-take.ensures.actors.1 ∙ before.actors.1);
    }
