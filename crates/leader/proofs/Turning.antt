-- Which evaluation a turn is of.
use Rattle.std.proofs.Common.{◌≡◌, Bool, true, false, ◌&&◌, cond, List, [], ◌∷◌, map, filter, Option, Ok, refl, sym, ap, ◌∙◌}
use Rattle.std.specs.Prelude.{find, option_map}
use Rattle.std.specs.List.{list_any}
use Rattle.rows.specs.declared.evaluation.Evaluation.{Evaluation}
use Rattle.rows.specs.Keys.{eval_id}
use Rattle.fsm_tables.specs.declared.urgency.Urgency.{Urgency}
use Rattle.fsm_model.specs.Words.{State, is_blocked, is_some_and, job_of}
use Rattle.group_model.specs.Order.{first_by, in_order}
use Rattle.group_model.specs.Brokers.{Broker, Task, task_id, failed}
use Rattle.group_model.specs.Blocked.{BlockedEval, BlockedEvals, blocked_id, blocked_eval, blocked_over, room_over, due, is_due, is_due_by, has_new_room, is_still_blocked, first_due}
use Rattle.group_model.specs.DeskTurns.{is_still_pending}
use Rattle.group_model.proofs.BlockedRows.{due_by_room}
use Rattle.eval_broker.specs.Answers.{urgency_of, failed_in_order}
use Rattle.blocked.specs.Rooms.{blocked_of}
use Rattle.leader.specs.OpenDesks.{OpenDesk, first_freed, on_free_turn}
use Rattle.leader.specs.Inner.Still.{is_blocked_in, stands_pending}
use Rattle.leader.proofs.Firsts.{first_passing, find_mapped, first_mapped, twice_mapped}

-- the first of the due ones in order that is still blocked
pub freed_is : (projected : State) (b : BlockedEvals) →
    find (is_blocked_in projected) (map blocked_id (in_order (λ (e : BlockedEval). e.row.priority) (due b))) ≡ option_map blocked_id (first_freed projected b)
freed_is projected b =
    find_mapped (is_blocked_in projected) blocked_id (in_order (λ (e : BlockedEval). e.row.priority) (due b))
    ∙ ap (option_map blocked_id) (first_passing (λ (e : BlockedEval). e.row.priority) (λ (e : BlockedEval). is_still_blocked projected e.row) (due b))

-- the first of the failed ones in order that is still pending
pub reaped_is : (projected : State) (b : Broker) →
    option_map (λ (u : Urgency). u.id) (find (stands_pending projected) (failed_in_order b)) ≡ option_map task_id (first_by (λ (t : Task). t.priority) (filter (is_still_pending projected) (failed b)))
reaped_is projected b =
    let all = in_order (λ (t : Task). t.priority) (failed b) in
    ap (option_map (λ (u : Urgency). u.id)) (find_mapped (stands_pending projected) urgency_of all)
    ∙ twice_mapped (λ (u : Urgency). u.id) urgency_of (find (λ (t : Task). stands_pending projected (urgency_of t)) all)
    ∙ ap (option_map task_id) (first_passing (λ (t : Task). t.priority) (is_still_pending projected) (failed b))

-- ---- by a state

-- of what is made of rows that stand, those that pass two tests, told by a test of the rows
module _ {X Y : Type 0} (f : X → Y) (stands tells : X → Bool) (one two : Y → Bool) where
  both_tests : ((x : X) → stands x ≡ true → tells x ≡ one (f x)) → ((x : X) → stands x ≡ false → tells x ≡ false) → (xs : List X) →
      filter two (filter one (map f (filter stands xs))) ≡ map f (filter (λ x. tells x && two (f x)) xs)
  both_tests is not [] = refl
  both_tests is not (x ∷ xs) = by (both_tests is not xs) (stands x) refl where
    made : List Y
    made = filter one (map f (filter stands xs))

    told : List X
    told = filter (λ x. tells x && two (f x)) xs

    last : filter two made ≡ map f told → (c : Bool) → cond c (f x ∷ filter two made) (filter two made) ≡ map f (cond c (x ∷ told) told)
    last rest true = ap (λ ys. f x ∷ ys) rest
    last rest false = rest

    at : filter two made ≡ map f told → (b : Bool) → filter two (cond b (f x ∷ made) made) ≡ map f (cond (b && two (f x)) (x ∷ told) told)
    at rest true = last rest (two (f x))
    at rest false = rest

    by : filter two made ≡ map f told → (b : Bool) → stands x ≡ b →
        filter two (filter one (map f (cond b (x ∷ filter stands xs) (filter stands xs)))) ≡ map f (cond (tells x && two (f x)) (x ∷ told) told)
    by rest true e =
        ap (λ b. filter two (cond b (f x ∷ made) made)) (sym (is x e)) ∙ at rest (tells x)
    by rest false e =
        rest ∙ ap (λ b. map f (cond (b && two (f x)) (x ∷ told) told)) (sym (not x e))

-- what is kept of a state tells its first due one
due_over : (s projected : State) → option_map blocked_id (first_freed projected (blocked_over s)) ≡ option_map eval_id (first_due s projected)
due_over s projected =
    let rank = λ (e : BlockedEval). e.row.priority in
    let room = room_over s.nodes in
    let those = filter (λ (e : Evaluation). is_due s e && is_still_blocked projected e) s.evals in
    ap (λ (bs : List BlockedEval). option_map blocked_id (first_by rank bs)) (both_tests (blocked_eval s) (λ (e : Evaluation). is_blocked e.status) (is_due s) (is_due_by room) (λ (b : BlockedEval). is_still_blocked projected b.row)
    (λ e is. due_by_room s e is) (λ e not. ap (λ b. b && is_some_and (λ j. list_any (has_new_room j e.snapshot) s.nodes) (job_of e.job s)) not) s.evals)
    ∙ ap (option_map blocked_id) (first_mapped rank (blocked_eval s) those)
    ∙ twice_mapped blocked_id (blocked_eval s) (first_due s projected)

pub freed_of_state : (s projected : State) (o : OpenDesk) (id : Option _) → blocked_of o.blocked ≡ blocked_over s → on_free_turn projected o ≡ Ok id → id ≡ option_map eval_id (first_due s projected)
freed_of_state s projected o id over answers =
    let same : option_map blocked_id (first_freed projected (blocked_of o.blocked)) ≡ id = cc in
    sym same ∙ ap (λ (b : BlockedEvals). option_map blocked_id (first_freed projected b)) over ∙ due_over s projected
