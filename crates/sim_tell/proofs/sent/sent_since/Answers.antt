use Rattle.std.proofs.Common.{◌∙◌, ◌+◌, ◌<◌, ap, arith, drop, length, string_bytes, sym}
use Rattle.std.proofs.lemmas.List.{drop_all}
use Rattle.sim_tell.specs.Sent.{with_frames}
use Rattle.sim_tell.proofs.Sending.{one_sent}
use Rattle.sim_tell.proofs.sent.sent_since.Goals as goal

pub loop-place-preserved : goal.loop-place-preserved
loop-place-preserved c =
    let sent = c.args.sent.now in
    let place = c.loop-place.place in
    let inside : place < length sent = omega arith in
    ap (with_frames (place + 1 + 1) (drop (place + 1) sent)) c.in_ok-push_sent.ensures
    ∙ sym (one_sent (place + 1) sent place (string_bytes c.loop-place.words) inside)
    ∙ c.loop-place.invariant

pub returns : goal.returns
returns c =
    let sent = c.args.sent.now in
    let place = c.loop-place.place in
    ap (λ rest. with_frames (place + 1) rest (string_bytes c.loop-place.words)) (sym (drop_all place sent (omega arith)))
    ∙ c.loop-place.invariant
