use Rattle.std.proofs.Common.{List, filter, map, not, ap, sym, ◌∙◌}
use Rattle.fsm_tables.specs.declared.urgency.Urgency.{Urgency}
use Rattle.fsm_model.proofs.Lists.{filter_both}
use Rattle.group_model.specs.Order.{in_order}
use Rattle.group_model.specs.Blocked.{BlockedEval, blocked_id, is_due_by, room_with, made_due}
use Rattle.blocked.specs.Rooms.{BlockedRows, room_in, blocked_of}
use Rattle.blocked.specs.Inner.Urgencies.{urgency_of, becomes_due_by}
use Rattle.blocked.proofs.Ordered.{ids_in_order}
use Rattle.blocked.proofs.blocked.Blocked.room.Goals as goal

pub returns-clause-ids : goal.returns-clause-ids
returns-clause-ids c =
    let class = c.args.class.now in
    let index = c.args.index in
    let room = room_in c.self.inside.rooms in
    let evals = c.self.inside.evals.rows in
    let in_turn = λ (us : List Urgency). map (λ (u : Urgency). u.id) (in_order (λ (u : Urgency). u.priority.0) us) in
    let all = λ (es : List BlockedEval). map blocked_id (in_order (λ (e : BlockedEval). e.row.priority) es) in
    let those = filter (becomes_due_by class index room) in
    c.in_ok-ids.ensures.ok
    ∙ ap in_turn (c.as_slice.ensures ∙ c.in_ok-urgencies.ensures ∙ ap (λ (es : List BlockedEval). map urgency_of (those es)) c.rows.ensures.rows)
    ∙ ids_in_order (those evals)
    ∙ ap all (sym (filter_both (λ (e : BlockedEval). not (is_due_by room e)) (is_due_by (room_with class index room)) evals))
    ∙ ap (λ (b : BlockedRows). map blocked_id (made_due class index (blocked_of b))) c.self.view_is
