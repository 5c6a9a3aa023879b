use Rattle.std.proofs.Common.{◌≡◌, ◌≤◌, true, length, List, filter, map, ap, subst, ◌∙◌}
use Rattle.fsm_tables.specs.declared.urgency.Urgency.{Urgency}
use Rattle.group_model.specs.Order.{in_order}
use Rattle.group_model.specs.Blocked.{BlockedEval, blocked_id, is_due_by, due}
use Rattle.blocked.specs.Rooms.{BlockedRows, room_in, blocked_of, some_due}
use Rattle.blocked.specs.Inner.Urgencies.{urgency_of}
use Rattle.blocked.proofs.Ordered.{ids_in_order}
use Rattle.blocked.proofs.Wanting.{on_err, some_pass}
use Rattle.blocked.proofs.blocked.Blocked.due.Goals as goal

pub returns-clause-ok : goal.returns-clause-ok
returns-clause-ok c =
    let in_turn = λ (us : List Urgency). map (λ (u : Urgency). u.id) (in_order (λ (u : Urgency). u.priority.0) us) in
    let those = filter (is_due_by (room_in c.self.inside.rooms)) in
    c.in_ok-ids.ensures.ok
    ∙ ap in_turn (c.as_slice.ensures ∙ c.in_ok-urgencies.ensures.ok ∙ ap (λ (es : List BlockedEval). map urgency_of (those es)) c.rows.ensures.rows)
    ∙ ids_in_order (those c.self.inside.evals.rows)
    ∙ ap (λ (b : BlockedRows). map blocked_id (in_order (λ (e : BlockedEval). e.row.priority) (due (blocked_of b)))) c.self.view_is

pub returns-in_err-ids-clause-memory : goal.returns-in_err-ids-clause-memory
returns-in_err-ids-clause-memory c =
    let passes = is_due_by (room_in c.self.inside.rooms) in
    let is = c.as_slice.ensures ∙ c.in_ok-urgencies.ensures.ok ∙ ap (λ (es : List BlockedEval). map urgency_of (filter passes es)) c.rows.ensures.rows in
    on_err c.from_residual-in_err-ids.result
    (subst (λ (b : BlockedRows). some_due (blocked_of b) ≡ true) c.self.view_is
    (some_pass passes urgency_of c.self.inside.evals.rows (subst (λ (us : List Urgency). 1 ≤ length us) is c.in_err-ids.ensures.memory)))
