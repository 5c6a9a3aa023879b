-- The room of classes, one row put; and the rows of a state, one after the other.
use Rattle.std.proofs.Common.{◌≡◌, ℕ, zero, suc, ◌-◌, ◌<◌, Bool, true, false, cond, List, ◌∷◌, map, filter, drop, Option, Some, max, bytes_eq, refl, sym, ap, ◌∙◌, arith}
use Rattle.std.specs.List.{slice_get}
use Rattle.std.specs.Ordering.{is_eq}
use Rattle.std.specs.Cmp.Lexicographic.{nat_list_cmp_total}
use Rattle.std.proofs.lemmas.Map.Text.{is_eq-slice_cmp}
use Rattle.std.proofs.lemmas.Slice.Eq.{bytes_eq-Decides}
use Rattle.rows.specs.declared.node.Node.{Node}
use Rattle.rows.specs.declared.evaluation.Evaluation.{Evaluation}
use Rattle.rows.specs.Keys.{name_cmp}
use Rattle.fsm_tables.specs.Rows.{row_of, put}
use Rattle.fsm_tables.proofs.RowLaws.{row_of-put}
use Rattle.fsm_model.specs.Words.{State, is_blocked}
use Rattle.fsm_model.proofs.Lists.{rest_from}
use Rattle.group_model.specs.Blocked.{BlockedEval, room_with, room_over, blocked_eval}
use Rattle.blocked.specs.declared.rooms.ClassRoom.{ClassRoom}
use Rattle.blocked.specs.Rooms.{room_class, index_or_zero, room_in}

-- ---- a class gets room

found : (b : Bool) (x : ClassRoom) (o : Option ClassRoom) → index_or_zero (cond b (Some x) o) ≡ cond b x.room (index_or_zero o)
found true x o = refl
found false x o = refl

pub noted : (class : List ℕ) (index : ℕ) (rooms : List ClassRoom) →
    room_in (put name_cmp room_class (record { class = class; room = room_with class index (room_in rooms) class }) rooms) ≡ room_with class index (room_in rooms)
noted class index rooms = λ i c. at c i where
  by : (c : List ℕ) (b : Bool) → bytes_eq c class ≡ b → cond b (room_with class index (room_in rooms) class) (room_in rooms c) ≡ room_with class index (room_in rooms) c
  by c true e = ap (room_with class index (room_in rooms)) (sym ((bytes_eq-Decides c class).0 e))
  by c false e = ap (λ b. cond b (max (room_in rooms c) index) (room_in rooms c)) (sym e)

  at : (c : List ℕ) → room_in (put name_cmp room_class (record { class = class; room = room_with class index (room_in rooms) class }) rooms) c ≡ room_with class index (room_in rooms) c
  at c =
      ap index_or_zero (row_of-put name_cmp room_class nat_list_cmp_total c (record { class = class; room = room_with class index (room_in rooms) class }) rooms)
      ∙ found (is_eq (name_cmp c class)) (record { class = class; room = room_with class index (room_in rooms) class }) (row_of name_cmp room_class c rooms)
      ∙ ap (λ b. cond b (room_with class index (room_in rooms) class) (room_in rooms c)) (is_eq-slice_cmp c class)
      ∙ by c (bytes_eq c class) refl

-- ---- nodes, from the last to the first

pub node_before : (nodes : List Node) (at : ℕ) (n : Node) → 0 < at → Some n ≡ slice_get nodes (at - 1) → room_with n.class n.room (room_over (drop at nodes)) ≡ room_over (drop (at - 1) nodes)
node_before nodes at n lt e =
    let next : suc (at - 1) ≡ at = omega arith in
    (λ i c. room_with n.class n.room (room_over (drop (sym next i) nodes)) c)
    ∙ (λ i c. room_over (sym (rest_from nodes (at - 1) n e) i) c)

-- ---- evaluations, from the first to the last

-- the blocked ones of a state's evaluations
abbrev pub held_of : State → List Evaluation → List BlockedEval
held_of s evals = map (blocked_eval s) (filter (λ (e : Evaluation). is_blocked e.status) evals)

-- one of those that are left, which is blocked or not
pub eval_passed : (s : State) (e : Evaluation) (left rest : List Evaluation) → left ≡ e ∷ rest → is_blocked e.status ≡ false → held_of s left ≡ held_of s rest
eval_passed s e left rest is not_held = ap (held_of s) is ∙ ap (λ b. map (blocked_eval s) (cond b (e ∷ filter (λ (x : Evaluation). is_blocked x.status) rest) (filter (λ (x : Evaluation). is_blocked x.status) rest))) not_held

pub eval_held : (s : State) (e : Evaluation) (left rest : List Evaluation) → left ≡ e ∷ rest → is_blocked e.status ≡ true → held_of s left ≡ blocked_eval s e ∷ held_of s rest
eval_held s e left rest is held = ap (held_of s) is ∙ ap (λ b. map (blocked_eval s) (cond b (e ∷ filter (λ (x : Evaluation). is_blocked x.status) rest) (filter (λ (x : Evaluation). is_blocked x.status) rest))) held
