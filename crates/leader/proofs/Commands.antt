-- What each command changes of evaluations, jobs and nodes is what the parts of a desk are told.
use Rattle.std.proofs.Common.{◌≡◌, ℕ, suc, ◌+◌, ◌≤◌, Bool, true, false, cond, ◌&&◌, ◌||◌, T, List, [], ◌∷◌, length, map, filter, Option, Some, None, is_none, bytes_eq, max, refl, sym, ap, subst, ◌∙◌, arith}
use Rattle.std.specs.Prelude.{nat_eq}
use Rattle.std.specs.List.{AllByRecursion, list_any}
use Rattle.std.specs.Ordering.{nat_cmp, is_eq}
use Rattle.std.specs.declared.cmp.Ordering.TheVariants.{Equal}
use Rattle.std.specs.Cmp.{nat_cmp_total}
use Rattle.std.specs.Cmp.Lexicographic.{nat_list_cmp_total}
use Rattle.rows.specs.declared.job.Job.{Job}
use Rattle.rows.specs.declared.node.Node.{Node}
use Rattle.rows.specs.declared.node.NodeSpec.{NodeSpec}
use Rattle.rows.specs.declared.node.NodeStatus.{NodeStatus}
use Rattle.rows.specs.declared.node.NodeStatus.TheVariants as statuses
use Rattle.rows.specs.declared.evaluation.EvalId.{EvalId}
use Rattle.rows.specs.declared.evaluation.Evaluation.{Evaluation}
use Rattle.rows.specs.declared.command.StatusChange.{StatusChange}
use Rattle.rows.specs.declared.command.Command.{Command}
use Rattle.rows.specs.declared.command.Command.TheVariants as commands
use Rattle.rows.specs.Changes.{status_of, snapshot_of}
use Rattle.rows.specs.Keys.{name_cmp, eval_cmp, job_name, node_number, eval_id}
use Rattle.rows.specs.Rising.{is_rising}
use Rattle.rows.proofs.KeyLaws.{eval_cmp_total}
use Rattle.fsm_tables.specs.Rows.{row_of, put, put_within}
use Rattle.fsm_tables.proofs.RowLaws.{equal, row_of-put}
use Rattle.fsm_tables.specs.Lookups.{lives_on}
use Rattle.fsm_tables.proofs.ReservedTables.{found_tied}
use Rattle.fsm_state.proofs.StepLaws.{put_only, row_tied}
use Rattle.rows.specs.Limits.{most_jobs, most_nodes}
use Rattle.rows.specs.States.{AreTables}
use Rattle.fsm_model.specs.Words.{State, is_open, is_blocked, same_eval, no_node, job_of, node_of}
use Rattle.fsm_model.specs.Effect.{applied, with_next_count, with_evals, is_named, owns, job_row, stopped_row, stop_job, node_row, status_row, marked_as, downed, disconnected, draining_row, draining, drained_row, drained, moves, set_status, with_room, frees, stop, told_all, is_ended_by}
use Rattle.fsm_model.proofs.Keys.{at_eval, at_number}
use Rattle.fsm_model.proofs.Lists.{maps_same}
use Rattle.fsm_model.proofs.StateLaws.{applied_are_tables}
use Rattle.group_model.specs.Expiry.{HeartbeatCount, is_held, counted_node, heartbeats_of, heartbeat_count_of, heartbeat_counts_over, HoldsHeld}
use Rattle.group_model.specs.Blocked.{room_over, classes_of, blocked_eval, blocked_over}
use Rattle.group_model.proofs.Following.{counts_follow, counts_stay}
use Rattle.group_model.proofs.BlockedRows.{blocked_follow_jobs}
use Rattle.blocked.specs.Rooms.{with_room_of}
use Rattle.leader.specs.Inner.Changes.{IsRowOf, AreChanges, TouchChanged, row_if_any, TellsEvals, at_job, tell_job, at_node, tell_node, tell_rooms}
use Rattle.leader.specs.Following.{has_just_room}
use Rattle.leader.proofs.Tables.{found_again, put_or_none, made_of, row_of-map}

-- ---- evaluations

unchanged : (evals : List Evaluation) (rows : List Evaluation) → rows ≡ [] → AreChanges rows evals evals
unchanged evals rows e = subst (λ (rows : List Evaluation). AreChanges rows evals evals) (sym e) (record { each = tt; others = λ id none. refl })

few_filtered : {X : Type 0} (p : X → Bool) (xs : List X) (most : ℕ) → length xs ≤ most → length (filter p xs) ≤ most
few_filtered p xs most le = let all : length (filter p xs) ≤ length xs = by p xs in omega (arith, all, le) where
  by : {X : Type 0} (p : X → Bool) (xs : List X) → length (filter p xs) ≤ length xs
  by p [] = omega arith
  by p (x ∷ xs) =
      let rest : length (filter p xs) ≤ length xs = by p xs in
      elim (p x) as (λ b. length (cond b (x ∷ filter p xs) (filter p xs)) ≤ suc (length xs)) [ true ↦ omega (arith, rest) | false ↦ omega (arith, rest) ]

-- the row of a status that was set
module _ (id : EvalId) (to : StatusChange) (evals : List Evaluation) where
  abbrev pub after : List Evaluation
  after = map (set_status id to) evals

  set_id : (e : Evaluation) → eval_id (set_status id to e) ≡ eval_id e
  set_id e = elim (same_eval e.id id && is_open e.status) as (λ b. eval_id (cond b (record e { status = status_of to; snapshot = snapshot_of to }) e) ≡ e.id) [ true ↦ refl | false ↦ refl ]

  at_row : (k : EvalId) → row_of eval_cmp eval_id k after ≡ made_of (set_status id to) (row_of eval_cmp eval_id k evals)
  at_row k = row_of-map eval_cmp eval_id eval_id (set_status id to) set_id k evals

  -- a row of another id stays
  other_row : (e : Evaluation) → same_eval e.id id ≡ false → set_status id to e ≡ e
  other_row e apart = ap (λ b. cond (b && is_open e.status) (record e { status = status_of to; snapshot = snapshot_of to }) e) apart

  is_told : (k : EvalId) (e : Evaluation) → row_of eval_cmp eval_id k evals ≡ Some e → same_eval e.id id ≡ true
      → list_any (λ (r : Evaluation). is_eq (eval_cmp k r.id)) (row_if_any (row_of eval_cmp eval_id id after)) ≡ true
  is_told k e found same =
      let tie : eval_cmp id e.id ≡ Equal = equal _ (subst T (sym (at_eval id e ∙ same)) tt) in
      let there : row_of eval_cmp eval_id id after ≡ Some (set_status id to e) =
      at_row id ∙ ap (made_of (set_status id to)) (row_tied eval_cmp eval_id eval_cmp_total id e.id tie evals ∙ found_again eval_cmp eval_id eval_cmp_total k e evals found) in
      let is : is_eq (eval_cmp k (eval_id (set_status id to e))) ≡ true = ap (λ q. is_eq (eval_cmp k q)) (set_id e) ∙ ap is_eq (found_tied eval_cmp eval_id eval_cmp_total k evals e found) in
      ap (λ (m : Option Evaluation). list_any (λ (r : Evaluation). is_eq (eval_cmp k r.id)) (row_if_any m)) there
      ∙ ap (λ b. b || false) is

  others_stay : (k : EvalId) → list_any (λ (r : Evaluation). is_eq (eval_cmp k r.id)) (row_if_any (row_of eval_cmp eval_id id after)) ≡ false → row_of eval_cmp eval_id k after ≡ row_of eval_cmp eval_id k evals
  others_stay k none =
      at_row k
      ∙ elim (row_of eval_cmp eval_id k evals) as (λ m. row_of eval_cmp eval_id k evals ≡ m → made_of (set_status id to) m ≡ m) [
        | None ↦ λ q. refl
        | Some e ↦ λ q. ap Some (other_row e (by e q (same_eval e.id id) refl))
      ] refl
    where
      by : (e : Evaluation) → row_of eval_cmp eval_id k evals ≡ Some e → (b : Bool) → same_eval e.id id ≡ b → b ≡ false
      by e q true s = sym (is_told k e q s) ∙ none
      by e q false s = refl

  pub status_changes : AreChanges (row_if_any (row_of eval_cmp eval_id id after)) evals after
  status_changes = record {
    each = elim (row_of eval_cmp eval_id id after) as (λ m. row_of eval_cmp eval_id id after ≡ m → AllByRecursion (IsRowOf after) (row_if_any m)) [
      | None ↦ λ q. tt
      | Some r ↦ λ q. (found_again eval_cmp eval_id eval_cmp_total id r after q, tt)
    ] refl;
    others = others_stay;
  }

-- jobs were touched
touch_is : (s : State) (c : Command) (rows : List Evaluation) → AreTables s → TouchChanged (applied s c) rows → (p : Job → Bool)
    → (applied s c).evals ≡ with_evals (applied s c).count 0 (filter p (applied s c).jobs) s.evals → 1 ≤ (applied s c).count → AreChanges rows s.evals (applied s c).evals
touch_is s c rows h told p is some =
    told (filter p (applied s c).jobs) s.evals some (few_filtered p (applied s c).jobs most_jobs (applied_are_tables s c h).jobs.few) h.evals.rising is

pub evals_told : (s : State) (c : Command) (rows : List Evaluation) → AreTables s → TellsEvals c (applied s c) rows → AreChanges rows s.evals (applied s c).evals
evals_told s commands.Noop rows h told = unchanged s.evals rows told
evals_told s (commands.JobPut j) rows h told = touch_is s (commands.JobPut j) rows h told (is_named j.name) refl (omega arith)
evals_told s (commands.JobStop name) rows h told = touch_is s (commands.JobStop name) rows h told (is_named name) refl (omega arith)
evals_told s (commands.NodePut n) rows h told = unchanged s.evals rows told
evals_told s (commands.NodeDown n) rows h told =
    elim (no_node n s) as (λ b. TouchChanged (cond b (with_next_count s) (downed n (with_next_count s))) rows → AreChanges rows s.evals (cond b (with_next_count s) (downed n (with_next_count s))).evals) [
      | true ↦ λ told. told [] s.evals (omega arith) (omega arith) h.evals.rising refl
      | false ↦ λ told. told (filter (owns (lives_on n) s.allocs) s.jobs) s.evals (omega arith) (few_filtered (owns (lives_on n) s.allocs) s.jobs most_jobs h.jobs.few) h.evals.rising refl
    ] told
evals_told s (commands.Disconnect n) rows h told =
    elim (no_node n s) as (λ b. AreChanges rows s.evals (cond b (with_next_count s) (disconnected n (with_next_count s))).evals) [
      | true ↦ unchanged s.evals rows told
      | false ↦ unchanged s.evals rows told
    ]
evals_told s (commands.Drain n force) rows h told = unchanged s.evals rows told
evals_told s (commands.DrainDone n) rows h told = unchanged s.evals rows told
evals_told s (commands.Migrate ids) rows h told = touch_is s (commands.Migrate ids) rows h told (owns (moves ids) s.allocs) refl (omega arith)
evals_told s (commands.EvalPut name) rows h told = touch_is s (commands.EvalPut name) rows h told (is_named name) refl (omega arith)
evals_told s (commands.EvalStatus id to) rows h told = subst (λ (rows : List Evaluation). AreChanges rows s.evals (map (set_status id to) s.evals)) (sym told) (status_changes id to s.evals)
evals_told s (commands.Plan p) rows h told = unchanged s.evals rows told
evals_told s (commands.Report n rs) rows h told = touch_is s (commands.Report n rs) rows h told (owns (is_ended_by (told_all n rs)) s.allocs) refl (omega arith)

-- ---- jobs

-- a stopped job asks for the classes that it asked for
stopped_classes : (s : State) (x : ℕ) (name : List ℕ) → blocked_over s ≡ blocked_over (record s { jobs = map (stop_job x name) s.jobs })
stopped_classes s x name = λ i. record { evals = over (filter (λ e. is_blocked e.status) s.evals) i; room = room_over s.nodes } where
  keeps : (j : Job) → (job_name (stop_job x name j) ≡ j.name) × (classes_of (Some (stop_job x name j)) ≡ classes_of (Some j))
  keeps j = elim (is_named name j) as (λ b. (job_name (cond b (stopped_row x j) j) ≡ j.name) × (classes_of (Some (cond b (stopped_row x j) j)) ≡ classes_of (Some j))) [ true ↦ (refl, refl) | false ↦ (refl, refl) ]

  classes : (m : Option Job) → classes_of m ≡ classes_of (made_of (stop_job x name) m)
  classes None = refl
  classes (Some j) = sym (keeps j).1

  one : (e : Evaluation) → classes_of (job_of e.job s) ≡ classes_of (row_of name_cmp job_name e.job (map (stop_job x name) s.jobs))
  one e = classes (job_of e.job s) ∙ sym (ap classes_of (row_of-map name_cmp job_name job_name (stop_job x name) (λ j. (keeps j).0) e.job s.jobs))

  over : (es : List Evaluation) → map (blocked_eval s) es ≡ map (blocked_eval (record s { jobs = map (stop_job x name) s.jobs })) es
  over [] = refl
  over (e ∷ es) = λ i. record { row = e; classes = one e i } ∷ over es i

pub job_told : (s : State) (c : Command) → tell_job c (applied s c) (blocked_over s) ≡ blocked_over (record s { jobs = (applied s c).jobs })
job_told s commands.Noop = refl
job_told s (commands.JobPut j) =
    put_or_none name_cmp job_name nat_list_cmp_total most_jobs (job_row (s.count + 1) j) s.jobs
    (λ m jobs. at_job m (blocked_over s) ≡ blocked_over (record s { jobs = jobs })) (sym (blocked_follow_jobs s (job_row (s.count + 1) j))) refl
job_told s (commands.JobStop name) = stopped_classes s (s.count + 1) name
job_told s (commands.NodePut n) = refl
job_told s (commands.NodeDown n) = elim (no_node n s) as (λ b. blocked_over s ≡ blocked_over (record s { jobs = (cond b (with_next_count s) (downed n (with_next_count s))).jobs })) [ true ↦ refl | false ↦ refl ]
job_told s (commands.Disconnect n) = elim (no_node n s) as (λ b. blocked_over s ≡ blocked_over (record s { jobs = (cond b (with_next_count s) (disconnected n (with_next_count s))).jobs })) [ true ↦ refl | false ↦ refl ]
job_told s (commands.Drain n force) = refl
job_told s (commands.DrainDone n) = refl
job_told s (commands.Migrate ids) = refl
job_told s (commands.EvalPut name) = refl
job_told s (commands.EvalStatus id to) = refl
job_told s (commands.Plan p) = refl
job_told s (commands.Report n rs) = refl

-- ---- nodes

module _ (counts : List HeartbeatCount) where
  -- a change that keeps numbers, and which nodes are held
  mapped_counts : (f : Node → Node) → ((n : Node) → (node_number (f n) ≡ n.number) × (is_held (f n).status ≡ is_held n.status)) → (nodes : List Node) → heartbeat_counts_over (map f nodes) counts ≡ heartbeat_counts_over nodes counts
  mapped_counts f keeps [] = refl
  mapped_counts f keeps (n ∷ nodes) =
      ap (λ b. map (λ (n : Node). counted_node n (heartbeat_count_of n.number counts)) (cond b (f n ∷ filter (λ (n : Node). is_held n.status) (map f nodes)) (filter (λ (n : Node). is_held n.status) (map f nodes)))) (keeps n).1
      ∙ elim (is_held n.status) as (λ b. map (λ (n : Node). counted_node n (heartbeat_count_of n.number counts)) (cond b (f n ∷ filter (λ (n : Node). is_held n.status) (map f nodes)) (filter (λ (n : Node). is_held n.status) (map f nodes)))
      ≡ map (λ (n : Node). counted_node n (heartbeat_count_of n.number counts)) (cond b (n ∷ filter (λ (n : Node). is_held n.status) nodes) (filter (λ (n : Node). is_held n.status) nodes))) [
        | true ↦ λ i. (let c : HeartbeatCount = record { node = (keeps n).0 i; beats = heartbeats_of (heartbeat_count_of ((keeps n).0 i) counts) } in c) ∷ mapped_counts f keeps nodes i
        | false ↦ mapped_counts f keeps nodes
      ]

room_keeps : (freed : ℕ → Bool) (x : ℕ) (n : Node) → (node_number (with_room freed x n) ≡ n.number) × (is_held (with_room freed x n).status ≡ is_held n.status)
room_keeps freed x n = elim (freed n.number) as (λ b. let r = cond b (record n { room = x }) n in (node_number r ≡ n.number) × (is_held r.status ≡ is_held n.status)) [ true ↦ (refl, refl) | false ↦ (refl, refl) ]

draining_keeps : (k : ℕ) (force : Bool) (n : Node) → (node_number (draining k force n) ≡ n.number) × (is_held (draining k force n).status ≡ is_held n.status)
draining_keeps k force n = elim (nat_eq n.number k) as (λ b. let r = cond b (draining_row force n) n in (node_number r ≡ n.number) × (is_held r.status ≡ is_held n.status)) [ true ↦ (refl, refl) | false ↦ (refl, refl) ]

drained_keeps : (k : ℕ) (n : Node) → (node_number (drained k n) ≡ n.number) × (is_held (drained k n).status ≡ is_held n.status)
drained_keeps k n = elim (nat_eq n.number k) as (λ b. let r = cond b (drained_row n) n in (node_number r ≡ n.number) × (is_held r.status ≡ is_held n.status)) [ true ↦ (refl, refl) | false ↦ (refl, refl) ]

same_number : (n m : ℕ) → nat_cmp n m ≡ Equal → m ≡ n
same_number n m e = let yes : is_eq (nat_cmp n m) ≡ true = ap is_eq e in grind arith

-- the row of a node that comes is of its number
put_number : (x : ℕ) (n : NodeSpec) (nodes : List Node) (m : Option Node) → row_of nat_cmp node_number n.number nodes ≡ m → node_number (node_row x n m) ≡ n.number
put_number x n nodes None e = refl
put_number x n nodes (Some old) e = same_number n.number old.number (found_tied nat_cmp node_number nat_cmp_total n.number nodes old e)

-- a node of another status is one that is put
marked_is_put : (status : NodeStatus) (n : ℕ) (r : Node) (nodes : List Node) → T (is_rising nat_cmp node_number nodes) → row_of nat_cmp node_number n nodes ≡ Some r → put nat_cmp node_number (status_row status r) nodes ≡ map (marked_as status n) nodes
marked_is_put status n r nodes h e =
    put_only nat_cmp node_number nat_cmp_total (status_row status) (λ r. refl) n r nodes h e
    ∙ maps_same _ (marked_as status n) (λ y. ap (λ b. cond b (status_row status y) y) (at_number n y.number)) nodes

module _ (s : State) (counts : List HeartbeatCount) (rising : T (is_rising nat_cmp node_number s.nodes)) (of : HoldsHeld s.nodes counts) where
  stays : counts ≡ heartbeat_counts_over s.nodes counts
  stays = sym (counts_stay s.nodes counts rising of)

  mapped : (f : Node → Node) → ((n : Node) → (node_number (f n) ≡ n.number) × (is_held (f n).status ≡ is_held n.status)) → counts ≡ heartbeat_counts_over (map f s.nodes) counts
  mapped f keeps = stays ∙ sym (mapped_counts counts f keeps s.nodes)

  came : (n : NodeSpec) → tell_node (commands.NodePut n) (applied s (commands.NodePut n)) counts ≡ heartbeat_counts_over (applied s (commands.NodePut n)).nodes counts
  came n =
      let row = node_row (s.count + 1) n (node_of n.number s) in
      let after = put_within nat_cmp node_number most_nodes row s.nodes in
      ap (λ (k : ℕ). at_node (row_of nat_cmp node_number k after) counts) (sym (put_number (s.count + 1) n s.nodes (node_of n.number s) refl))
      ∙ put_or_none nat_cmp node_number nat_cmp_total most_nodes row s.nodes (λ m nodes. at_node m counts ≡ heartbeat_counts_over nodes counts) (sym (counts_follow s.nodes row counts rising of)) stays

  marked : (status : NodeStatus) (n : ℕ) (r : Node) → node_of n s ≡ Some r → at_node (row_of nat_cmp node_number n (map (marked_as status n) s.nodes)) counts ≡ heartbeat_counts_over (map (marked_as status n) s.nodes) counts
  marked status n r e =
      let is = marked_is_put status n r s.nodes rising e in
      let there : row_of nat_cmp node_number n (map (marked_as status n) s.nodes) ≡ Some (status_row status r) =
      ap (row_of nat_cmp node_number n) (sym is) ∙ row_of-put nat_cmp node_number nat_cmp_total n (status_row status r) s.nodes
      ∙ ap (λ o. cond (is_eq o) (Some (status_row status r)) (node_of n s)) (found_tied nat_cmp node_number nat_cmp_total n s.nodes r e) in
      ap (λ (m : Option Node). at_node m counts) there
      ∙ sym (counts_follow s.nodes (status_row status r) counts rising of)
      ∙ ap (λ nodes. heartbeat_counts_over nodes counts) is

  went : (n : ℕ) (m : Option Node) → node_of n s ≡ m → at_node (node_of n (cond (is_none m) (with_next_count s) (downed n (with_next_count s)))) counts ≡ heartbeat_counts_over (cond (is_none m) (with_next_count s) (downed n (with_next_count s))).nodes counts
  went n None e = ap (λ (m : Option Node). at_node m counts) e ∙ stays
  went n (Some r) e = marked statuses.Down n r e

  is_away : (n : ℕ) (m : Option Node) → node_of n s ≡ m → at_node (node_of n (cond (is_none m) (with_next_count s) (disconnected n (with_next_count s)))) counts ≡ heartbeat_counts_over (cond (is_none m) (with_next_count s) (disconnected n (with_next_count s))).nodes counts
  is_away n None e = ap (λ (m : Option Node). at_node m counts) e ∙ stays
  is_away n (Some r) e = marked statuses.Disconnected n r e

  pub node_told : (c : Command) → tell_node c (applied s c) counts ≡ heartbeat_counts_over (applied s c).nodes counts
  node_told commands.Noop = stays
  node_told (commands.JobPut j) = stays
  node_told (commands.JobStop name) = stays
  node_told (commands.NodePut n) = came n
  node_told (commands.NodeDown n) = went n (node_of n s) refl
  node_told (commands.Disconnect n) = is_away n (node_of n s) refl
  node_told (commands.Drain n force) = mapped (draining n force) (draining_keeps n force)
  node_told (commands.DrainDone n) = mapped (drained n) (drained_keeps n)
  node_told (commands.Migrate ids) = stays
  node_told (commands.EvalPut name) = stays
  node_told (commands.EvalStatus id to) = stays
  node_told (commands.Plan p) = mapped (with_room (frees (stop p.stops) s.allocs) (s.count + 1)) (room_keeps (frees (stop p.stops) s.allocs) (s.count + 1))
  node_told (commands.Report n rs) = mapped (with_room (frees (told_all n rs) s.allocs) (s.count + 1)) (room_keeps (frees (told_all n rs) s.allocs) (s.count + 1))

-- ---- rooms

-- a change that keeps classes and rooms
mapped_rooms : (f : Node → Node) → ((n : Node) → ((f n).class ≡ n.class) × ((f n).room ≡ n.room)) → (nodes : List Node) → room_over nodes ≡ room_over (map f nodes)
mapped_rooms f keeps nodes = λ i c. go nodes c i where
  go : (nodes : List Node) (c : List ℕ) → room_over nodes c ≡ room_over (map f nodes) c
  go [] c = refl
  go (n ∷ nodes) c = λ i. let k = go nodes c i in cond (bytes_eq c (sym (keeps n).0 i)) (max k (sym (keeps n).1 i)) k

-- where no node has room from this entry on, none was given any
no_room : (freed : ℕ → Bool) (x : ℕ) (nodes : List Node) → list_any (λ (n : Node). nat_eq n.room x) (map (with_room freed x) nodes) ≡ false → nodes ≡ map (with_room freed x) nodes
no_room freed x [] e = refl
no_room freed x (n ∷ nodes) e =
    elim (freed n.number) as (λ b. (nat_eq (cond b (record n { room = x }) n).room x || list_any (λ (n : Node). nat_eq n.room x) (map (with_room freed x) nodes)) ≡ false → n ∷ nodes ≡ cond b (record n { room = x }) n ∷ map (with_room freed x) nodes) [
      | true ↦ λ e. absurd (never e)
      | false ↦ λ e. ap (λ zs. n ∷ zs) (no_room freed x nodes (rest (nat_eq n.room x) (list_any (λ (n : Node). nat_eq n.room x) (map (with_room freed x) nodes)) e))
    ] e
  where
    itself : (k : ℕ) → nat_eq k k ≡ true
    itself k = grind arith

    never : (nat_eq x x || list_any (λ (n : Node). nat_eq n.room x) (map (with_room freed x) nodes)) ≡ false → ⊥
    never e = let yes = itself x in absurd cc

    rest : (a b : Bool) → (a || b) ≡ false → b ≡ false
    rest true b e = absurd cc
    rest false b e = e

marked_rooms : (status : NodeStatus) (k : ℕ) (n : Node) → ((marked_as status k n).class ≡ n.class) × ((marked_as status k n).room ≡ n.room)
marked_rooms status k n = elim (nat_eq n.number k) as (λ b. let r = cond b (status_row status n) n in (r.class ≡ n.class) × (r.room ≡ n.room)) [ true ↦ (refl, refl) | false ↦ (refl, refl) ]

draining_rooms : (k : ℕ) (force : Bool) (n : Node) → ((draining k force n).class ≡ n.class) × ((draining k force n).room ≡ n.room)
draining_rooms k force n = elim (nat_eq n.number k) as (λ b. let r = cond b (draining_row force n) n in (r.class ≡ n.class) × (r.room ≡ n.room)) [ true ↦ (refl, refl) | false ↦ (refl, refl) ]

drained_rooms : (k : ℕ) (n : Node) → ((drained k n).class ≡ n.class) × ((drained k n).room ≡ n.room)
drained_rooms k n = elim (nat_eq n.number k) as (λ b. let r = cond b (drained_row n) n in (r.class ≡ n.class) × (r.room ≡ n.room)) [ true ↦ (refl, refl) | false ↦ (refl, refl) ]

-- the state after a command, with the nodes before it
abbrev pub old_nodes : State → Command → State
old_nodes s c = record (applied s c) { nodes = s.nodes }

-- the blocked evaluations are the same, with this room
same_rooms : (t : State) (nodes : List Node) → room_over nodes ≡ room_over t.nodes → blocked_over (record t { nodes = nodes }) ≡ blocked_over t
same_rooms t nodes e = λ i. record { evals = (blocked_over t).evals; room = e i }

freed_rooms : (t : State) (nodes : List Node) (freed : ℕ → Bool) → t.nodes ≡ map (with_room freed t.count) nodes
    → cond (has_just_room t) (with_room_of t.nodes (blocked_over (record t { nodes = nodes }))) (blocked_over (record t { nodes = nodes })) ≡ blocked_over t
freed_rooms t nodes freed is =
    elim (has_just_room t) as (λ b. has_just_room t ≡ b → cond b (with_room_of t.nodes (blocked_over (record t { nodes = nodes }))) (blocked_over (record t { nodes = nodes })) ≡ blocked_over t) [
      | true ↦ λ e. refl
      | false ↦ λ e. same_rooms t nodes (ap room_over (no_room freed t.count nodes (ap (λ (ns : List Node). list_any (λ (n : Node). nat_eq n.room t.count) ns) (sym is) ∙ e) ∙ sym is))
    ] refl

pub rooms_told : (s : State) (c : Command) → tell_rooms c (applied s c) (blocked_over (old_nodes s c)) ≡ blocked_over (applied s c)
rooms_told s commands.Noop = refl
rooms_told s (commands.JobPut j) = refl
rooms_told s (commands.JobStop name) = refl
rooms_told s (commands.NodePut n) = refl
rooms_told s (commands.NodeDown n) =
    elim (no_node n s) as (λ b. let t = cond b (with_next_count s) (downed n (with_next_count s)) in blocked_over (record t { nodes = s.nodes }) ≡ blocked_over t) [
      | true ↦ refl
      | false ↦ same_rooms (downed n (with_next_count s)) s.nodes (mapped_rooms (marked_as statuses.Down n) (marked_rooms statuses.Down n) s.nodes)
    ]
rooms_told s (commands.Disconnect n) =
    elim (no_node n s) as (λ b. let t = cond b (with_next_count s) (disconnected n (with_next_count s)) in blocked_over (record t { nodes = s.nodes }) ≡ blocked_over t) [
      | true ↦ refl
      | false ↦ same_rooms (disconnected n (with_next_count s)) s.nodes (mapped_rooms (marked_as statuses.Disconnected n) (marked_rooms statuses.Disconnected n) s.nodes)
    ]
rooms_told s (commands.Drain n force) = same_rooms (applied s (commands.Drain n force)) s.nodes (mapped_rooms (draining n force) (draining_rooms n force) s.nodes)
rooms_told s (commands.DrainDone n) = same_rooms (applied s (commands.DrainDone n)) s.nodes (mapped_rooms (drained n) (drained_rooms n) s.nodes)
rooms_told s (commands.Migrate ids) = refl
rooms_told s (commands.EvalPut name) = refl
rooms_told s (commands.EvalStatus id to) = refl
rooms_told s (commands.Plan p) = freed_rooms (applied s (commands.Plan p)) s.nodes (frees (stop p.stops) s.allocs) refl
rooms_told s (commands.Report n rs) = freed_rooms (applied s (commands.Report n rs)) s.nodes (frees (told_all n rs) s.allocs) refl
