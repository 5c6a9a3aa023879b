use Rattle.std.proofs.Common.{◌≡◌, ◌∙◌, List, ap, ap₂, length, refl, string_bytes}
use Rattle.wire.specs.Frames.{Frame}
use Rattle.sim_tell.specs.Events.{actor_of, answered_text, server_of, took_text, who_text}
use Rattle.sim_tell.specs.Sent.{sent_text}
use Rattle.sim_tell.specs.Standings.{standing_in}
use Rattle.sim_tell.specs.StandingWords.{change_words}
use Rattle.sim_tell.proofs.Rows.{answered_is, cell_of, row_is, same_told}
use Rattle.sim_tell.proofs.cells.row_of.Goals as goal

pub returns : goal.returns
returns c =
    let event = c.args.event.now in
    let old = c.args.world.now in
    let new = c.hand_event.new.world in
    let number = cell_of _ _ _ c.number_of.ensures c.in_ok-push_cell.ensures in
    let who = cell_of _ _ _ c.who_of.ensures c.in_ok-push_cell-2.ensures in
    let told = cell_of _ _ _ c.answered.ensures c.in_ok-push_cell-3.ensures in
    let change = cell_of _ _ _ c.change_of-change.ensures c.in_ok-push_cell-4.ensures in
    let sent = cell_of _ _ _ c.sent_since.ensures c.in_ok-push_cell-5.ensures in
    let took = answered_is _ _ _ _ c.took_of-took.ensures told.1 in
    let actor : c.actor_of-actor.result ≡ actor_of old.outbox.frames event =
    c.actor_of-actor.ensures ∙ ap (λ (s : List Frame). actor_of s event) c.sent.ensures.value in
    record {
      answer = c.in_ok-answer.answer;
      took = rw c.in_ok-try_clone.ensures.same at c.in_ok-answer.ensures;
      changed = string_bytes change.0;
      change = same_told _ _ _ _ _ _ _
          (c.server_of-server.ensures ∙ ap (server_of new) actor)
          (ap₂ change_words (c.of-before.ensures ∙ ap (standing_in old) actor) (c.of-after.ensures ∙ ap (standing_in new) actor))
          change.1;
      cells = row_is _ _ _ _ _ _ _ _ _ _ _ _ _ _ _ _ c.new-row.ensures.items number.2 who.2 told.2 change.2 sent.2
          number.1
          (who.1 ∙ ap who_text actor)
          (took ∙ ap (λ (s : List Frame). answered_text c.in_ok-answer.answer (took_text s event)) c.sent-2.ensures.value)
          refl
          (sent.1 ∙ ap₂ sent_text (c.len-sent.ensures ∙ ap length c.sent-3.ensures.value) c.sent-4.ensures.value);
    }
