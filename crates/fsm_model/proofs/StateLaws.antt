-- The other laws of the commands: each adds one to the count, keeps each table's order and limit,
-- and is refused for the machine's own reasons.
use Rattle.std.proofs.Common.{◌≡◌, ℕ, ◌+◌, ◌≤◌, ◌∙◌, Bool, true, false, cond, nat_eq, List, [], ◌∷◌, length, map, Some, refl, sym, ap, subst, suc, arith, if◌then◌else◌}
use Rattle.std.specs.Prelude.{filter, ◌&&◌}
use Rattle.std.specs.List.{list_any}
use Rattle.std.specs.Cmp.{IsTotalOrder, nat_cmp_total}
use Rattle.std.specs.Cmp.Lexicographic.{nat_list_cmp_total}
use Rattle.std.specs.Ordering.{nat_cmp}
use Rattle.std.specs.declared.cmp.Ordering.{Ordering}
use Rattle.rows.specs.declared.job.Job.{Job}
use Rattle.rows.specs.declared.evaluation.Evaluation.{Evaluation}
use Rattle.rows.specs.declared.allocation.Allocation.{Allocation}
use Rattle.rows.specs.declared.node.Node.{Node}
use Rattle.rows.specs.declared.node.NodeStatus.{NodeStatus}
use Rattle.rows.specs.declared.node.NodeStatus.TheVariants as statuses
use Rattle.rows.specs.declared.node.DrainMode.TheVariants as drains
use Rattle.rows.specs.declared.allocation.ClientState.{ClientState}
use Rattle.rows.specs.declared.allocation.ClientState.TheVariants as clients
use Rattle.rows.specs.declared.allocation.Desired.TheVariants as desires
use Rattle.rows.specs.declared.command.AcceptedPlace.{AcceptedPlace}
use Rattle.rows.specs.declared.command.AcceptedPlan.{AcceptedPlan}
use Rattle.rows.specs.declared.command.Report.{Report}
use Rattle.rows.specs.declared.command.Command.{Command}
use Rattle.rows.specs.declared.command.Command.TheVariants as commands
use Rattle.rows.specs.declared.refusal.Refusal.{Refusal}
use Rattle.rows.specs.Changes.{status_of, snapshot_of}
use Rattle.rows.specs.Keys.{name_cmp, eval_cmp, alloc_cmp, job_name, node_number, eval_id, alloc_id}
use Rattle.rows.proofs.KeyLaws.{alloc_cmp_total, eval_cmp_total}
use Rattle.machine_model.specs.MachineSpec.{IsMachineRefusal}
use Rattle.fsm_tables.specs.Rows.{put_within}
use Rattle.fsm_tables.proofs.RowLaws.{rising_put_within, few_put_within, rising_mapped}
use Rattle.fsm_tables.specs.Claims.{is_active, is_wanted}
use Rattle.fsm_tables.specs.Lookups.{lives_on}
use Rattle.fsm_model.specs.Words.{State, no_rows, same_eval, same_alloc, node_of, no_node, is_open}
use Rattle.fsm_model.specs.Effect.{applied, with_next_count, new_eval, with_evals, evaluations_created, is_named, owns, with_job_row, job_row, stop_job, with_job_stopped, node_row, marked_as, draining, drained, left_as, unreached, moves, with_migrate_mark, set_status, stop, is_ended_by, frees, with_room, altered, alloc_row, with_places, client_state_of, told, told_all, downed, disconnected}
use Rattle.fsm_model.specs.Admission.{first_of, tests, admission}
use Rattle.rows.specs.States.{InOrder, AreTables}

-- what holds of both holds of the one that is taken
pub either : {X : Type 0} (P : X → Type 0) (b : Bool) (x y : X) → P x → P y → P (if b then x else y)
either P true x y p q = p
either P false x y p q = q

pub applied_has_count : (s : State) (c : Command) → (applied s c).count ≡ s.count + 1
applied_has_count s commands.Noop = refl
applied_has_count s (commands.JobPut j) = refl
applied_has_count s (commands.JobStop name) = refl
applied_has_count s (commands.NodePut n) = refl
applied_has_count s (commands.NodeDown n) = either (λ (t : State). t.count ≡ s.count + 1) (no_node n s) (with_next_count s) (downed n (with_next_count s)) refl refl
applied_has_count s (commands.Disconnect n) = either (λ (t : State). t.count ≡ s.count + 1) (no_node n s) (with_next_count s) (disconnected n (with_next_count s)) refl refl
applied_has_count s (commands.Drain n force) = refl
applied_has_count s (commands.DrainDone n) = refl
applied_has_count s (commands.Migrate ids) = refl
applied_has_count s (commands.EvalPut name) = refl
applied_has_count s (commands.EvalStatus id to) = refl
applied_has_count s (commands.Plan p) = refl
applied_has_count s (commands.Report n rs) = refl

-- ---- order and limits of the tables

pub empty_are_tables : AreTables no_rows
empty_are_tables = record {
  jobs = record { rising = tt; few = omega arith };
  nodes = record { rising = tt; few = omega arith };
  evals = record { rising = tt; few = omega arith };
  allocs = record { rising = tt; few = omega arith };
}

mapped_length : {A : Type 0} (f : A → A) (xs : List A) → length (map f xs) ≡ length xs
mapped_length f [] = refl
mapped_length f (x ∷ xs) = ap suc (mapped_length f xs)

put_in_order : {K X : Type 0} (R : K → K → Ordering) (key : X → K) (o : IsTotalOrder R) (most : ℕ) (x : X) (rows : List X) → InOrder R key most rows → InOrder R key most (put_within R key most x rows)
put_in_order R key o most x rows h = record { rising = rising_put_within R key o most x rows h.rising; few = few_put_within R key o most x rows h.rising h.few }

map_in_order : {K X : Type 0} (R : K → K → Ordering) (key : X → K) (most : ℕ) (f : X → X) → ((x : X) → key (f x) ≡ key x) → (rows : List X) → InOrder R key most rows → InOrder R key most (map f rows)
map_in_order R key most f keeps rows h = record { rising = rising_mapped R key f keeps rows h.rising; few = subst (λ (n : ℕ). n ≤ most) (sym (mapped_length f rows)) h.few }

-- a change of the rows that pass a test, which keeps their keys
kept_where : {K X : Type 0} (key : X → K) (test : X → Bool) (f : X → X) → ((x : X) → key (f x) ≡ key x) → (x : X) → key (cond (test x) (f x) x) ≡ key x
kept_where key test f keeps x = elim (test x) as (λ b. key (cond b (f x) x) ≡ key x) [ true ↦ keeps x | false ↦ refl ]

evals_in_order : (x slot : ℕ) (jobs : List Job) (evals : List Evaluation) → InOrder eval_cmp eval_id 65536 evals → InOrder eval_cmp eval_id 65536 (with_evals x slot jobs evals)
evals_in_order x slot [] evals h = h
evals_in_order x slot (j ∷ js) evals h = evals_in_order x (slot + 1) js _ (put_in_order eval_cmp eval_id eval_cmp_total 65536 (new_eval x slot j) evals h)

touch_in_order : (those : Job → Bool) (s : State) → InOrder eval_cmp eval_id 65536 s.evals → InOrder eval_cmp eval_id 65536 (evaluations_created those s).evals
touch_in_order those s h = evals_in_order s.count 0 (filter those s.jobs) s.evals h

places_in_order : (x slot : ℕ) (p : AcceptedPlan) (ks : List AcceptedPlace) (rows : List Allocation) → InOrder alloc_cmp alloc_id 65536 rows → InOrder alloc_cmp alloc_id 65536 (with_places x slot p ks rows)
places_in_order x slot p [] rows h = h
places_in_order x slot p (k ∷ ks) rows h = places_in_order x (slot + 1) p ks _ (put_in_order alloc_cmp alloc_id alloc_cmp_total 65536 (alloc_row x slot p k) rows h)

told_keeps : (n : ℕ) (r : Report) (a : Allocation) → alloc_id (told n r a) ≡ alloc_id a
told_keeps n r a = kept_where alloc_id (λ a. same_alloc a.id r.id && nat_eq a.node n && is_active a.client) (λ a. record a { client = client_state_of r.state }) (λ a. refl) a

told_all_keeps : (n : ℕ) (rs : List Report) (a : Allocation) → alloc_id (told_all n rs a) ≡ alloc_id a
told_all_keeps n [] a = refl
told_all_keeps n (r ∷ rs) a = told_all_keeps n rs (told n r a) ∙ told_keeps n r a

rooms_in_order : (freed : ℕ → Bool) (x : ℕ) (s : State) → AreTables s → InOrder nat_cmp node_number 64 (map (with_room freed x) s.nodes)
rooms_in_order freed x s h = map_in_order nat_cmp node_number 64 (with_room freed x) (kept_where node_number (λ r. freed r.number) (λ r. record r { room = x }) (λ r. refl)) s.nodes h.nodes

-- a node of another status, and what was active on it in another client state
marks_in_order : (status : NodeStatus) (n : ℕ) (nodes : List Node) → InOrder nat_cmp node_number 64 nodes → InOrder nat_cmp node_number 64 (map (marked_as status n) nodes)
marks_in_order status n nodes h = map_in_order nat_cmp node_number 64 (marked_as status n) (kept_where node_number (λ r. nat_eq r.number n) (λ r. record r { status = status }) (λ r. refl)) nodes h

left_in_order : (client : ClientState) (n : ℕ) (rows : List Allocation) → InOrder alloc_cmp alloc_id 65536 rows → InOrder alloc_cmp alloc_id 65536 (map (left_as client n) rows)
left_in_order client n rows h = map_in_order alloc_cmp alloc_id 65536 (left_as client n) (kept_where alloc_id (λ a. nat_eq a.node n && is_active a.client) (λ a. record a { client = client }) (λ a. refl)) rows h

downed_are_tables : (n : ℕ) (s : State) → AreTables s → AreTables (downed n s)
downed_are_tables n s h = record {
  jobs = h.jobs;
  nodes = marks_in_order statuses.Down n s.nodes h.nodes;
  evals = touch_in_order (owns (lives_on n) s.allocs) (unreached statuses.Down clients.Lost n s) h.evals;
  allocs = left_in_order clients.Lost n s.allocs h.allocs;
}

disconnected_are_tables : (n : ℕ) (s : State) → AreTables s → AreTables (disconnected n s)
disconnected_are_tables n s h = record {
  jobs = h.jobs;
  nodes = marks_in_order statuses.Disconnected n s.nodes h.nodes;
  evals = h.evals;
  allocs = left_in_order clients.Unknown n s.allocs h.allocs;
}

counted_are_tables : (s : State) → AreTables s → AreTables (with_next_count s)
counted_are_tables s h = record { jobs = h.jobs; nodes = h.nodes; evals = h.evals; allocs = h.allocs }

pub applied_are_tables : (s : State) (c : Command) → AreTables s → AreTables (applied s c)
applied_are_tables s commands.Noop h = counted_are_tables s h
applied_are_tables s (commands.JobPut j) h = record { jobs = put_in_order name_cmp job_name nat_list_cmp_total 256 (job_row (s.count + 1) j) s.jobs h.jobs; nodes = h.nodes; evals = touch_in_order (is_named j.name) (with_job_row j (with_next_count s)) h.evals; allocs = h.allocs }
applied_are_tables s (commands.JobStop name) h = record { jobs = map_in_order name_cmp job_name 256 (stop_job (s.count + 1) name) (kept_where job_name (is_named name) (λ j. record j { stopped = true; version = s.count + 1 }) (λ j. refl)) s.jobs h.jobs; nodes = h.nodes; evals = touch_in_order (is_named name) (with_job_stopped name (with_next_count s)) h.evals; allocs = h.allocs }
applied_are_tables s (commands.NodePut n) h = record { jobs = h.jobs; nodes = put_in_order nat_cmp node_number nat_cmp_total 64 (node_row (s.count + 1) n (node_of n.number s)) s.nodes h.nodes; evals = h.evals; allocs = h.allocs }
applied_are_tables s (commands.NodeDown n) h =
    let before = counted_are_tables s h in
    either AreTables (no_node n s) (with_next_count s) (downed n (with_next_count s)) before (downed_are_tables n (with_next_count s) before)
applied_are_tables s (commands.Disconnect n) h =
    let before = counted_are_tables s h in
    either AreTables (no_node n s) (with_next_count s) (disconnected n (with_next_count s)) before (disconnected_are_tables n (with_next_count s) before)
applied_are_tables s (commands.Drain n force) h = record { jobs = h.jobs; nodes = map_in_order nat_cmp node_number 64 (draining n force) (kept_where node_number (λ r. nat_eq r.number n) (λ r. record r { eligible = false; drain = cond force drains.Force drains.Slow }) (λ r. refl)) s.nodes h.nodes; evals = h.evals; allocs = h.allocs }
applied_are_tables s (commands.DrainDone n) h = record { jobs = h.jobs; nodes = map_in_order nat_cmp node_number 64 (drained n) (kept_where node_number (λ r. nat_eq r.number n) (λ r. record r { drain = drains.Off }) (λ r. refl)) s.nodes h.nodes; evals = h.evals; allocs = h.allocs }
applied_are_tables s (commands.Migrate ids) h = record {
  jobs = h.jobs;
  nodes = h.nodes;
  evals = touch_in_order (owns (moves ids) s.allocs) (record (with_next_count s) { allocs = map (with_migrate_mark ids) s.allocs }) h.evals;
  allocs = map_in_order alloc_cmp alloc_id 65536 (with_migrate_mark ids) (kept_where alloc_id (moves ids) (λ a. record a { migrate = true }) (λ a. refl)) s.allocs h.allocs;
}
applied_are_tables s (commands.EvalPut name) h = record { jobs = h.jobs; nodes = h.nodes; evals = touch_in_order (is_named name) (with_next_count s) h.evals; allocs = h.allocs }
applied_are_tables s (commands.EvalStatus id to) h = record {
  jobs = h.jobs;
  nodes = h.nodes;
  evals = map_in_order eval_cmp eval_id 65536 (set_status id to) (kept_where eval_id (λ e. same_eval e.id id && is_open e.status) (λ e. record e { status = status_of to; snapshot = snapshot_of to }) (λ e. refl)) s.evals h.evals;
  allocs = h.allocs;
}
applied_are_tables s (commands.Plan p) h = record {
  jobs = h.jobs;
  nodes = rooms_in_order (frees (stop p.stops) s.allocs) (s.count + 1) s h;
  evals = h.evals;
  allocs = places_in_order (s.count + 1) 0 p p.places (map (stop p.stops) s.allocs) (map_in_order alloc_cmp alloc_id 65536 (stop p.stops) (kept_where alloc_id (λ a. list_any (same_alloc a.id) p.stops && is_wanted a.desired) (λ a. record a { desired = desires.Stop }) (λ a. refl)) s.allocs h.allocs);
}
applied_are_tables s (commands.Report n rs) h = record {
  jobs = h.jobs;
  nodes = rooms_in_order (frees (told_all n rs) s.allocs) (s.count + 1) s h;
  evals = touch_in_order (owns (is_ended_by (told_all n rs)) s.allocs) (altered (told_all n rs) (with_next_count s)) h.evals;
  allocs = map_in_order alloc_cmp alloc_id 65536 (told_all n rs) (told_all_keeps n rs) s.allocs h.allocs;
}

-- ---- refusals

abbrev AllOwn : List (Bool × Refusal) → Type 0
AllOwn [] = Unit {0}
AllOwn (test ∷ others) = IsMachineRefusal test.1 × AllOwn others

first_is_own : (all : List (Bool × Refusal)) (r : Refusal) → AllOwn all → first_of all ≡ Some r → IsMachineRefusal r
first_is_own [] r own e = absurd cc
first_is_own (test ∷ others) r own e =
    elim test.0 as (λ b. cond b (Some test.1) (first_of others) ≡ Some r → IsMachineRefusal r) [
      | true ↦ λ e. let same : test.1 ≡ r = cc in subst IsMachineRefusal same own.0
      | false ↦ λ e. first_is_own others r own.1 e
    ] e

all_own : (s : State) (c : Command) → AllOwn (tests s c)
all_own s commands.Noop = tt
all_own s (commands.JobPut j) = (tt, tt)
all_own s (commands.JobStop name) = (tt, (tt, (tt, tt)))
all_own s (commands.NodePut n) = (tt, tt)
all_own s (commands.NodeDown n) = (tt, (tt, (tt, tt)))
all_own s (commands.Disconnect n) = (tt, (tt, tt))
all_own s (commands.Drain n force) = (tt, tt)
all_own s (commands.DrainDone n) = (tt, (tt, tt))
all_own s (commands.Migrate ids) = (tt, (tt, (tt, tt)))
all_own s (commands.EvalPut name) = (tt, (tt, tt))
all_own s (commands.EvalStatus id to) = (tt, tt)
all_own s (commands.Plan p) = (tt, (tt, (tt, (tt, (tt, (tt, (tt, tt)))))))
all_own s (commands.Report n rs) = (tt, (tt, (tt, tt)))

pub refusal_is_its_own : (s : State) (c : Command) (r : Refusal) → admission s c ≡ Some r → IsMachineRefusal r
refusal_is_its_own s c r e = first_is_own (tests s c) r (all_own s c) e
