-- Each command that is within its ranges keeps every row within its own.
use Rattle.std.proofs.Common.{◌≡◌, ℕ, ◌+◌, ◌^◌, ◌<◌, ◌≤◌, Bool, true, false, cond, ◌&&◌, ◌||◌, nat_eq, List, [], ◌∷◌, length, map, Option, Some, None, refl, sym, subst, arith, suc}
use Rattle.std.specs.Prelude.{filter, nat_lt}
use Rattle.std.specs.List.{AllByRecursion, list_any}
use Rattle.std.specs.Ordering.{nat_cmp, is_eq}
use Rattle.std.specs.declared.cmp.Ordering.{Ordering}
use Rattle.rows.specs.declared.job.Job.{Job}
use Rattle.rows.specs.declared.node.Node.{Node}
use Rattle.rows.specs.declared.node.NodeSpec.{NodeSpec}
use Rattle.rows.specs.declared.node.NodeStatus.{NodeStatus}
use Rattle.rows.specs.declared.node.NodeStatus.TheVariants as statuses
use Rattle.rows.specs.declared.node.DrainMode.TheVariants as drains
use Rattle.rows.specs.declared.evaluation.EvalId.{EvalId}
use Rattle.rows.specs.declared.evaluation.Evaluation.{Evaluation}
use Rattle.rows.specs.declared.allocation.Allocation.{Allocation}
use Rattle.rows.specs.declared.allocation.Desired.TheVariants as desires
use Rattle.rows.specs.declared.allocation.ClientState.{ClientState}
use Rattle.rows.specs.declared.allocation.ClientState.TheVariants as clients
use Rattle.rows.specs.declared.command.AcceptedPlace.{AcceptedPlace}
use Rattle.rows.specs.declared.command.AcceptedPlan.{AcceptedPlan}
use Rattle.rows.specs.declared.command.Report.{Report}
use Rattle.rows.specs.declared.command.StatusChange.{StatusChange}
use Rattle.rows.specs.declared.command.StatusChange.TheVariants as changes
use Rattle.rows.specs.declared.command.Command.{Command}
use Rattle.rows.specs.declared.command.Command.TheVariants as commands
use Rattle.rows.specs.Changes.{status_of, snapshot_of}
use Rattle.rows.specs.Keys.{name_cmp, eval_cmp, alloc_cmp, job_name, node_number, eval_id, alloc_id}
use Rattle.rows.specs.Fits.{IndexFits, FromOneFits, JobFits, NodeSpecFits, NodeFits, EvaluationFits, AllocationFits, AcceptedPlaceFits, AcceptedPlanFits, StatusChangeFits, CommandFits}
use Rattle.fsm_tables.specs.Rows.{row_of, has_row, put, put_within}
use Rattle.fsm_tables.proofs.RowLaws.{all_put}
use Rattle.fsm_tables.specs.Claims.{is_active, is_wanted}
use Rattle.fsm_tables.specs.Lookups.{lives_on}
use Rattle.fsm_model.specs.Words.{State, no_rows, same_eval, same_alloc, node_of, no_node, is_open}
use Rattle.fsm_model.specs.Effect.{applied, with_next_count, new_eval, with_evals, evaluations_created, is_named, owns, with_job_row, job_row, stop_job, with_job_stopped, node_row, marked_as, draining, drained, left_as, unreached, moves, with_migrate_mark, set_status, stop, is_ended_by, frees, with_room, altered, alloc_row, with_places, client_state_of, told, told_all, downed, disconnected}
use Rattle.rows.specs.States.{AreTables, AllFit, IsState}
use Rattle.fsm_model.proofs.StateLaws.{either, applied_has_count, applied_are_tables, empty_are_tables}

-- ---- rows put and changed

pub all_within : {K X : Type 0} (R : K → K → Ordering) (key : X → K) (P : X → Type 0) (most : ℕ) (x : X) (ys : List X) → P x → AllByRecursion P ys → AllByRecursion P (put_within R key most x ys)
all_within R key P most x ys p h = elim (has_row R key (key x) ys || nat_lt (length ys) most) as (λ b. AllByRecursion P (cond b (put R key x ys) ys)) [ true ↦ all_put R key P x ys p h | false ↦ h ]

pub all_mapped : {X : Type 0} (P : X → Type 0) (f : X → X) → ((x : X) → P x → P (f x)) → (xs : List X) → AllByRecursion P xs → AllByRecursion P (map f xs)
all_mapped P f keeps [] h = tt
all_mapped P f keeps (x ∷ xs) h = (keeps x h.0, all_mapped P f keeps xs h.1)

all_kept : {X : Type 0} (P : X → Type 0) (test : X → Bool) (xs : List X) → AllByRecursion P xs → AllByRecursion P (filter test xs)
all_kept P test [] h = tt
all_kept P test (x ∷ xs) h = elim (test x) as (λ b. AllByRecursion P (cond b (x ∷ filter test xs) (filter test xs))) [ true ↦ (h.0, all_kept P test xs h.1) | false ↦ all_kept P test xs h.1 ]

pub no_more : {X : Type 0} (test : X → Bool) (xs : List X) → length (filter test xs) ≤ length xs
no_more test [] = omega arith
no_more test (x ∷ xs) = let rest = no_more test xs in elim (test x) as (λ b. length (cond b (x ∷ filter test xs) (filter test xs)) ≤ suc (length xs)) [ true ↦ omega (arith, rest) | false ↦ omega (arith, rest) ]

found_fits : {K X : Type 0} (R : K → K → Ordering) (key : X → K) (P : X → Type 0) (k : K) (r : X) (ys : List X) → row_of R key k ys ≡ Some r → AllByRecursion P ys → P r
found_fits R key P k r [] e h = absurd cc
found_fits R key P k r (y ∷ ys) e h =
    elim (is_eq (R k (key y))) as (λ b. cond b (Some y) (row_of R key k ys) ≡ Some r → P r) [
      | true ↦ λ e. let same : y ≡ r = cc in subst P same h.0
      | false ↦ λ e. found_fits R key P k r ys e h.1
    ] e

-- ---- what the commands make

evals_fit : (x slot : ℕ) (jobs : List Job) (evals : List Evaluation) → FromOneFits x → slot + length jobs ≤ 256 → AllByRecursion JobFits jobs → AllByRecursion EvaluationFits evals → AllByRecursion EvaluationFits (with_evals x slot jobs evals)
evals_fit x slot [] evals fx few fj fe = fe
evals_fit x slot (j ∷ js) evals fx few fj fe =
    let name = fj.0.0 in
    let priority = fj.0.1 in
    evals_fit x (slot + 1) js _ fx (omega (arith, few)) fj.1
    (all_within eval_cmp eval_id EvaluationFits 65536 (new_eval x slot j) evals ((fx, omega (arith, few)), name, priority, omega arith) fe)

touch_fits : (those : Job → Bool) (t : State) → FromOneFits t.count → length t.jobs ≤ 256 → AllByRecursion JobFits t.jobs → AllByRecursion EvaluationFits t.evals → AllByRecursion EvaluationFits (evaluations_created those t).evals
touch_fits those t fx few fj fe = let most = no_more those t.jobs in evals_fit t.count 0 (filter those t.jobs) t.evals fx (omega (arith, few, most)) (all_kept JobFits those t.jobs fj) fe

places_fit : (x slot : ℕ) (p : AcceptedPlan) (ks : List AcceptedPlace) (rows : List Allocation) → FromOneFits x → AcceptedPlanFits p → slot + length ks ≤ 64 → AllByRecursion AcceptedPlaceFits ks → AllByRecursion AllocationFits rows → AllByRecursion AllocationFits (with_places x slot p ks rows)
places_fit x slot p [] rows fx fp few fk fa = fa
places_fit x slot p (k ∷ ks) rows fx fp few fk fa =
    places_fit x (slot + 1) p ks _ fx fp (omega (arith, few)) fk.1
    (all_within alloc_cmp alloc_id AllocationFits 65536 (alloc_row x slot p k) rows ((fx, omega (arith, few)), fp.2, fk.0.0, fk.0.1, fk.0.2, fk.0.3, fp.0) fa)

node_row_fits : (x : ℕ) (n : NodeSpec) (nodes : List Node) → x < 2 ^ 40 → NodeSpecFits n → AllByRecursion NodeFits nodes → (old : Option Node) → row_of nat_cmp node_number n.number nodes ≡ old → NodeFits (node_row x n old)
node_row_fits x n nodes fx fn h None e = (fn.0, fn.1, fn.2, fx)
node_row_fits x n nodes fx fn h (Some old) e = let f = found_fits nat_cmp node_number NodeFits n.number old nodes e h in (f.0, f.1, f.2, fx)

snapshot_fits : (to : StatusChange) → StatusChangeFits to → IndexFits (snapshot_of to)
snapshot_fits changes.Pending h = omega arith
snapshot_fits (changes.Blocked snapshot) h = h
snapshot_fits changes.Complete h = omega arith
snapshot_fits changes.Failed h = omega arith

status_fits : (id : EvalId) (to : StatusChange) → StatusChangeFits to → (e : Evaluation) → EvaluationFits e → EvaluationFits (set_status id to e)
status_fits id to h e f = either EvaluationFits (same_eval e.id id && is_open e.status) (record e { status = status_of to; snapshot = snapshot_of to }) e (f.0, f.1, f.2, snapshot_fits to h) f

told_fits : (n : ℕ) (r : Report) (a : Allocation) → AllocationFits a → AllocationFits (told n r a)
told_fits n r a f = either AllocationFits (same_alloc a.id r.id && nat_eq a.node n && is_active a.client) (record a { client = client_state_of r.state }) a f f

told_all_fit : (n : ℕ) (rs : List Report) (a : Allocation) → AllocationFits a → AllocationFits (told_all n rs a)
told_all_fit n [] a f = f
told_all_fit n (r ∷ rs) a f = told_all_fit n rs (told n r a) (told_fits n r a f)

rooms_fit : (freed : ℕ → Bool) (x : ℕ) (nodes : List Node) → x < 2 ^ 40 → AllByRecursion NodeFits nodes → AllByRecursion NodeFits (map (with_room freed x) nodes)
rooms_fit freed x nodes fx h = all_mapped NodeFits (with_room freed x) (λ r f. either NodeFits (freed r.number) (record r { room = x }) r (f.0, f.1, f.2, fx) f) nodes h

few_places : (p : AcceptedPlan) → AcceptedPlanFits p → 0 + length p.places ≤ 64
few_places p f = let few = f.5.0 in omega (arith, few)

-- ---- the commands

-- a node of another status, and what was active on it in another client state
marks_fit : (status : NodeStatus) (n : ℕ) (nodes : List Node) → AllByRecursion NodeFits nodes → AllByRecursion NodeFits (map (marked_as status n) nodes)
marks_fit status n nodes h = all_mapped NodeFits (marked_as status n) (λ r g. either NodeFits (nat_eq r.number n) (record r { status = status }) r g g) nodes h

left_fit : (client : ClientState) (n : ℕ) (rows : List Allocation) → AllByRecursion AllocationFits rows → AllByRecursion AllocationFits (map (left_as client n) rows)
left_fit client n rows h = all_mapped AllocationFits (left_as client n) (λ a g. either AllocationFits (nat_eq a.node n && is_active a.client) (record a { client = client }) a g g) rows h

downed_fit : (n : ℕ) (s : State) → FromOneFits s.count → length s.jobs ≤ 256 → AllFit s → AllFit (downed n s)
downed_fit n s fx few h = record {
  jobs = h.jobs;
  nodes = marks_fit statuses.Down n s.nodes h.nodes;
  evals = touch_fits (owns (lives_on n) s.allocs) (unreached statuses.Down clients.Lost n s) fx few h.jobs h.evals;
  allocs = left_fit clients.Lost n s.allocs h.allocs;
}

disconnected_fit : (n : ℕ) (s : State) → AllFit s → AllFit (disconnected n s)
disconnected_fit n s h = record {
  jobs = h.jobs;
  nodes = marks_fit statuses.Disconnected n s.nodes h.nodes;
  evals = h.evals;
  allocs = left_fit clients.Unknown n s.allocs h.allocs;
}

counted_fit : (s : State) → AllFit s → AllFit (with_next_count s)
counted_fit s h = record { jobs = h.jobs; nodes = h.nodes; evals = h.evals; allocs = h.allocs }

pub applied_fit : (s : State) (c : Command) → AreTables s → AllFit s → CommandFits c → s.count + 1 < 2 ^ 40 → AllFit (applied s c)
applied_fit s commands.Noop t h f below = counted_fit s h
applied_fit s (commands.JobPut j) t h f below =
    let after = with_job_row j (with_next_count s) in
    let jobs : AllByRecursion JobFits after.jobs = all_within name_cmp job_name JobFits 256 (job_row (s.count + 1) j) s.jobs (f.0, f.1, below, f.2) h.jobs in
    let few : length after.jobs ≤ 256 = (applied_are_tables s (commands.JobPut j) t).jobs.few in
    record { jobs = jobs; nodes = h.nodes; evals = touch_fits (is_named j.name) after (omega arith, below) few jobs h.evals; allocs = h.allocs }
applied_fit s (commands.JobStop name) t h f below =
    let after = with_job_stopped name (with_next_count s) in
    let jobs : AllByRecursion JobFits after.jobs = all_mapped JobFits (stop_job (s.count + 1) name) (λ j g. either JobFits (is_named name j) (record j { stopped = true; version = s.count + 1 }) j (g.0, g.1, below, g.3) g) s.jobs h.jobs in
    let few : length after.jobs ≤ 256 = (applied_are_tables s (commands.JobStop name) t).jobs.few in
    record { jobs = jobs; nodes = h.nodes; evals = touch_fits (is_named name) after (omega arith, below) few jobs h.evals; allocs = h.allocs }
applied_fit s (commands.NodePut n) t h f below =
    record { jobs = h.jobs; nodes = all_within nat_cmp node_number NodeFits 64 (node_row (s.count + 1) n (node_of n.number s)) s.nodes (node_row_fits (s.count + 1) n s.nodes below f h.nodes (node_of n.number s) refl) h.nodes; evals = h.evals; allocs = h.allocs }
applied_fit s (commands.NodeDown n) t h f below =
    let before = counted_fit s h in
    either AllFit (no_node n s) (with_next_count s) (downed n (with_next_count s)) before (downed_fit n (with_next_count s) (omega arith, below) t.jobs.few before)
applied_fit s (commands.Disconnect n) t h f below =
    let before = counted_fit s h in
    either AllFit (no_node n s) (with_next_count s) (disconnected n (with_next_count s)) before (disconnected_fit n (with_next_count s) before)
applied_fit s (commands.Drain n force) t h f below =
    record { jobs = h.jobs; nodes = all_mapped NodeFits (draining n force) (λ r g. either NodeFits (nat_eq r.number n) (record r { eligible = false; drain = cond force drains.Force drains.Slow }) r g g) s.nodes h.nodes; evals = h.evals; allocs = h.allocs }
applied_fit s (commands.DrainDone n) t h f below =
    record { jobs = h.jobs; nodes = all_mapped NodeFits (drained n) (λ r g. either NodeFits (nat_eq r.number n) (record r { drain = drains.Off }) r g g) s.nodes h.nodes; evals = h.evals; allocs = h.allocs }
applied_fit s (commands.Migrate ids) t h f below = record {
  jobs = h.jobs;
  nodes = h.nodes;
  evals = touch_fits (owns (moves ids) s.allocs) (record (with_next_count s) { allocs = map (with_migrate_mark ids) s.allocs }) (omega arith, below) t.jobs.few h.jobs h.evals;
  allocs = all_mapped AllocationFits (with_migrate_mark ids) (λ a g. either AllocationFits (moves ids a) (record a { migrate = true }) a g g) s.allocs h.allocs;
}
applied_fit s (commands.EvalPut name) t h f below = record { jobs = h.jobs; nodes = h.nodes; evals = touch_fits (is_named name) (with_next_count s) (omega arith, below) t.jobs.few h.jobs h.evals; allocs = h.allocs }
applied_fit s (commands.EvalStatus id to) t h f below = record { jobs = h.jobs; nodes = h.nodes; evals = all_mapped EvaluationFits (set_status id to) (status_fits id to f.1) s.evals h.evals; allocs = h.allocs }
applied_fit s (commands.Plan p) t h f below = record {
  jobs = h.jobs;
  nodes = rooms_fit (frees (stop p.stops) s.allocs) (s.count + 1) s.nodes below h.nodes;
  evals = h.evals;
  allocs = places_fit (s.count + 1) 0 p p.places (map (stop p.stops) s.allocs) (omega arith, below) f (few_places p f) f.5.1
      (all_mapped AllocationFits (stop p.stops) (λ a g. either AllocationFits (list_any (same_alloc a.id) p.stops && is_wanted a.desired) (record a { desired = desires.Stop }) a g g) s.allocs h.allocs);
}
applied_fit s (commands.Report n rs) t h f below = record {
  jobs = h.jobs;
  nodes = rooms_fit (frees (told_all n rs) s.allocs) (s.count + 1) s.nodes below h.nodes;
  evals = touch_fits (owns (is_ended_by (told_all n rs)) s.allocs) (altered (told_all n rs) (with_next_count s)) (omega arith, below) t.jobs.few h.jobs h.evals;
  allocs = all_mapped AllocationFits (told_all n rs) (told_all_fit n rs) s.allocs h.allocs;
}

pub empty_is_state : IsState no_rows
empty_is_state = record { count = omega arith; tables = empty_are_tables; rows = record { jobs = tt; nodes = tt; evals = tt; allocs = tt } }

pub applied_is_state : (s : State) (c : Command) → IsState s → CommandFits c → s.count + 1 < 2 ^ 40 → IsState (applied s c)
applied_is_state s c h f below = record {
  count = subst (λ (n : ℕ). n < 2 ^ 40) (sym (applied_has_count s c)) below;
  tables = applied_are_tables s c h.tables;
  rows = applied_fit s c h.tables h.rows f below;
}
