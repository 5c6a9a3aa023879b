-- Blocked evaluations, at one row; and that their split is told by the room of classes.
use Rattle.std.proofs.Common.{◌≡◌, ℕ, ◌≤◌, Bool, true, false, cond, ◌&&◌, ◌||◌, nat_lt, max, bytes_eq, List, [], ◌∷◌, map, filter, Option, Some, None, refl, sym, ap, ◌∙◌, arith}
use Rattle.std.specs.List.{list_any}
use Rattle.std.specs.declared.cmp.Ordering.TheVariants.{Less, Equal, Greater}
use Rattle.std.specs.Ordering.{nat_cmp, is_eq}
use Rattle.rows.specs.declared.job.Group.{Group}
use Rattle.rows.specs.declared.job.Job.{Job}
use Rattle.rows.specs.declared.node.Node.{Node}
use Rattle.rows.specs.declared.evaluation.Evaluation.{Evaluation}
use Rattle.rows.specs.Keys.{name_cmp, eval_cmp, job_name, node_number, eval_id}
use Rattle.std.specs.Cmp.Lexicographic.{nat_list_cmp_total}
use Rattle.rows.proofs.KeyLaws.{eval_cmp_total}
use Rattle.fsm_tables.specs.Rows.{by_order, row_of, put}
use Rattle.fsm_tables.proofs.RowLaws.{row_of-put}
use Rattle.fsm_model.specs.Words.{is_some_and, job_of, is_blocked}
use Rattle.group_model.specs.Blocked.{BlockedEvals, blocked_id, with_blocked, without_blocked, blocked_over, has_new_room, room_with, classes_of, blocked_eval, room_over, with_classes_of}
use Rattle.fsm_tables.specs.ReservedTables.{without}
use Rattle.group_model.specs.OneRow.{BlockedFollowEvals, BlockedFollowNodes, BlockedFollowJobs, Replaces, DueByRoom}
use Rattle.group_model.proofs.KeptRows.{one_row}

-- ---- evaluations

pub blocked_follow_evals : BlockedFollowEvals
blocked_follow_evals s e rising =
    (λ i. record { evals = one_row eval_cmp eval_id blocked_id (blocked_eval s) (λ x. refl) (λ x. is_blocked x.status) eval_cmp_total e s.evals rising i; room = room_over s.nodes })
    ∙ by (is_blocked e.status)
  where
    by : (b : Bool) → let left : BlockedEvals = record { evals = cond b (put eval_cmp blocked_id (blocked_eval s e) (map (blocked_eval s) (filter (λ x. is_blocked x.status) s.evals))) (without eval_cmp blocked_id e.id (map (blocked_eval s) (filter (λ x. is_blocked x.status) s.evals))); room = room_over s.nodes } in left ≡ cond b (with_blocked e (classes_of (job_of e.job s)) (blocked_over s)) (without_blocked e.id (blocked_over s))
    by true = refl
    by false = refl

-- ---- nodes

-- room heard of twice, in either order
room_swaps : (a b : List ℕ) (x y : ℕ) (room : List ℕ → ℕ) (c : List ℕ) → room_with a x (room_with b y room) c ≡ room_with b y (room_with a x room) c
room_swaps a b x y room c = by (bytes_eq c a) (bytes_eq c b) where
  by : (p q : Bool) → cond p (max (cond q (max (room c) y) (room c)) x) (cond q (max (room c) y) (room c)) ≡ cond q (max (cond p (max (room c) x) (room c)) y) (cond p (max (room c) x) (room c))
  by true true = omega arith
  by true false = refl
  by false true = refl
  by false false = refl

-- room heard of later takes the place of what was heard before
room_replaces : (a : List ℕ) (x y : ℕ) (room : List ℕ → ℕ) (c : List ℕ) → x ≤ y → room_with a y room c ≡ room_with a y (room_with a x room) c
room_replaces a x y room c le = by (bytes_eq c a) where
  by : (p : Bool) → cond p (max (room c) y) (room c) ≡ cond p (max (cond p (max (room c) x) (room c)) y) (cond p (max (room c) x) (room c))
  by true = omega (arith, le)
  by false = refl

room_follows : (n : Node) (nodes : List Node) → Replaces n (row_of nat_cmp node_number n.number nodes) → (c : List ℕ) → room_over (put nat_cmp node_number n nodes) c ≡ room_with n.class n.room (room_over nodes) c
room_follows n [] r c = refl
room_follows n (y ∷ ys) r c =
    elim (nat_cmp n.number y.number) as (λ o. Replaces n (cond (is_eq o) (Some y) (row_of nat_cmp node_number n.number ys)) →
    room_over (by_order o (n ∷ y ∷ ys) (n ∷ ys) (y ∷ put nat_cmp node_number n ys)) c ≡ room_with n.class n.room (room_with y.class y.room (room_over ys)) c) [
      | Less ↦ λ h. refl
      | Equal ↦ λ h. room_replaces n.class y.room n.room (room_over ys) c h.1 ∙ ap (λ a. room_with n.class n.room (room_with a y.room (room_over ys)) c) (sym h.0)
      | Greater ↦ λ h. ap (λ k. cond (bytes_eq c y.class) (max k y.room) k) (room_follows n ys h c) ∙ room_swaps y.class n.class y.room n.room (room_over ys) c
    ] r

pub blocked_follow_nodes : BlockedFollowNodes
blocked_follow_nodes s n r = λ i. record { evals = map (blocked_eval s) (filter (λ e. is_blocked e.status) s.evals); room = λ c. room_follows n s.nodes r c i }

-- ---- jobs

pub blocked_follow_jobs : BlockedFollowJobs
blocked_follow_jobs s j = λ i. record { evals = over (filter (λ e. is_blocked e.status) s.evals) i; room = room_over s.nodes } where
  one : (e : Evaluation) → classes_of (row_of name_cmp job_name e.job (put name_cmp job_name j s.jobs)) ≡ cond (is_eq (name_cmp e.job j.name)) (classes_of (Some j)) (classes_of (job_of e.job s))
  one e = ap classes_of (row_of-put name_cmp job_name nat_list_cmp_total e.job j s.jobs) ∙ by (is_eq (name_cmp e.job j.name)) where
    by : (b : Bool) → classes_of (cond b (Some j) (job_of e.job s)) ≡ cond b (classes_of (Some j)) (classes_of (job_of e.job s))
    by true = refl
    by false = refl

  over : (es : List Evaluation) → map (blocked_eval (record s { jobs = put name_cmp job_name j s.jobs })) es ≡ map (with_classes_of j) (map (blocked_eval s) es)
  over [] = refl
  over (e ∷ es) = λ i. record { row = e; classes = one e i } ∷ over es i

-- ---- the split

none_new : (index : ℕ) (cs : List (List ℕ)) → false ≡ list_any (λ class. nat_lt index 0) cs
none_new index [] = refl
none_new index (c ∷ cs) = none_new index cs ∙ ap (λ b. b || list_any (λ class. nat_lt index 0) cs) (below index) where
  below : (k : ℕ) → false ≡ nat_lt k 0
  below k = grind arith

-- one node more gives a class room
one_node : (index : ℕ) (p : Bool) (room x : ℕ) → nat_lt index (cond p (max room x) room) ≡ ((p && nat_lt index x) || nat_lt index room)
one_node index true room x = grind arith
one_node index false room x = refl

any_or : (q : Bool) (index : ℕ) (class : List ℕ) (x : ℕ) (room : List ℕ → ℕ) (groups : List Group) → q ≡ nat_lt index x →
    ((list_any (λ (g : Group). bytes_eq g.class class) groups && q) || list_any (λ c. nat_lt index (room c)) (map (λ (g : Group). g.class) groups))
    ≡ list_any (λ c. nat_lt index (room_with class x room c)) (map (λ (g : Group). g.class) groups)
any_or q index class x room [] e = refl
any_or q index class x room (g ∷ groups) e =
    mixed (bytes_eq g.class class) q (list_any (λ (h : Group). bytes_eq h.class class) groups) (nat_lt index (room g.class)) (list_any (λ c. nat_lt index (room c)) (map (λ (h : Group). h.class) groups))
    ∙ (λ i. (ap (λ b. (bytes_eq g.class class && b) || nat_lt index (room g.class)) e ∙ sym (one_node index (bytes_eq g.class class) (room g.class) x)) i || any_or q index class x room groups e i)
  where
    mixed : (p q a r b : Bool) → (((p || a) && q) || (r || b)) ≡ (((p && q) || r) || ((a && q) || b))
    mixed true true a true b = refl
    mixed true true a false b = refl
    mixed true false true true b = refl
    mixed true false true false b = refl
    mixed true false false true b = refl
    mixed true false false false b = refl
    mixed false true true true b = refl
    mixed false true true false b = refl
    mixed false true false r b = refl
    mixed false false true r b = refl
    mixed false false false r b = refl

due_by : (j : Job) (index : ℕ) (nodes : List Node) → list_any (has_new_room j index) nodes ≡ list_any (λ c. nat_lt index (room_over nodes c)) (map (λ (g : Group). g.class) j.groups)
due_by j index [] = none_new index (map (λ (g : Group). g.class) j.groups)
due_by j index (n ∷ nodes) =
    ap (λ b. has_new_room j index n || b) (due_by j index nodes) ∙ any_or (nat_lt index n.room) index n.class n.room (room_over nodes) j.groups refl

pub due_by_room : DueByRoom
due_by_room s e blocked = ap (λ b. b && is_some_and (λ j. list_any (has_new_room j e.snapshot) s.nodes) (job_of e.job s)) blocked ∙ by (job_of e.job s) where
  by : (o : Option Job) → (true && is_some_and (λ j. list_any (has_new_room j e.snapshot) s.nodes) o) ≡ list_any (λ class. nat_lt e.snapshot (room_over s.nodes class)) (classes_of o)
  by None = refl
  by (Some j) = due_by j e.snapshot s.nodes
