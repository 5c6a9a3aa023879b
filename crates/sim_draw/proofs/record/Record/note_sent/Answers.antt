use Rattle.std.proofs.Common.{◌≡◌, ◌∙◌, ◌<◌, ◌≤◌, false, length, slice_get, ap, rules}
use Rattle.std.specs.Option.{unwrap_or}
use Rattle.sim_draw.specs.Inner.Records.{receiver_line}
use Rattle.sim_draw.proofs.Noting.{one_sent, same_line, same_sending}
use Rattle.sim_draw.proofs.record.Record.note_sent.Goals as goal

pub loop-place-preserved : goal.loop-place-preserved
loop-place-preserved c =
    let old = c.args.self.now in
    let frames = c.args.sent.now in
    let from = c.unwrap_or-from.result in
    let place = c.loop-place.place in
    let behind : length old.sendings.items ≤ place = search rules in
    let lt : place < length frames = search rules in
    let row : c.len-row.result ≡ length old.steps.items = search rules in
    let to : c.unwrap_or-to.result ≡ unwrap_or (receiver_line old (slice_get frames place)) from =
    c.unwrap_or-to.ensures ∙ ap (λ o. unwrap_or o from) (c.receiver_of.ensures
    ∙ same_line c.loop-place.self old (slice_get frames place) c.loop-place.invariant.actors.0 c.loop-place.invariant.actors.1) in
    record {
      steps = c.loop-place.invariant.steps;
      sendings = one_sent
          (λ o. record { row = length old.steps.items; from = from; to = unwrap_or (receiver_line old o) from; came = false })
          old.sendings.items c.loop-place.self.sendings.items _ frames (length old.sendings.items) place behind lt
          c.loop-place.invariant.sendings (same_sending _ _ _ _ _ _ _ row to c.in_ok-push.ensures.items);
      actors = c.loop-place.invariant.actors;
    }
