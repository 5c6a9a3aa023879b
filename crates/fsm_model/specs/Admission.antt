-- Which refusal each command meets at a state: the first of its list whose test holds; none where
-- no test holds.
use Rattle.std.specs.Prelude.{ℕ, ◌+◌, Bool, not, ◌&&◌, ◌||◌, List, [], ◌∷◌, length, filter, Option, Some, None, nat_eq, nat_lt, bytes_eq, if◌then◌else◌}
use Rattle.std.specs.List.{list_any, list_all}
use Rattle.rows.specs.declared.job.Job.{Job}
use Rattle.rows.specs.declared.job.Group.{Group}
use Rattle.rows.specs.declared.node.Node.{Node}
use Rattle.rows.specs.declared.node.NodeSpec.{NodeSpec}
use Rattle.rows.specs.declared.evaluation.EvalStatus.{EvalStatus}
use Rattle.rows.specs.declared.allocation.AllocId.{AllocId}
use Rattle.rows.specs.declared.command.AcceptedPlace.{AcceptedPlace}
use Rattle.rows.specs.declared.command.Report.{Report}
use Rattle.rows.specs.declared.command.StatusChange.{StatusChange}
use Rattle.rows.specs.declared.command.StatusChange.TheVariants as changes
use Rattle.rows.specs.declared.command.Command.{Command}
use Rattle.rows.specs.declared.command.Command.TheVariants as commands
use Rattle.rows.specs.declared.refusal.Refusal.{Refusal}
use Rattle.rows.specs.declared.refusal.Refusal.TheVariants as refusals
use Rattle.fsm_tables.specs.Claims.{is_live}
use Rattle.fsm_tables.specs.Lookups.{lives_on}
use Rattle.rows.specs.Limits.{most_jobs, most_evals, most_allocs}
use Rattle.rows.specs.NodeStatuses.{is_ready, is_down}
use Rattle.rows.specs.Sizes.{same_size}
use Rattle.fsm_model.specs.Words.{State, job_of, node_of, eval_of, alloc_of, is_some_and, no_job, no_node, no_alloc, is_draining, is_pending, is_blocked}
use Rattle.fsm_model.specs.Safe.{is_safe}
use Rattle.fsm_model.specs.Effect.{with_next_count, is_named, owns, moves, is_ended_by, told_all, planned}

abbrev pub first_of : List (Bool × Refusal) → Option Refusal
first_of [] = None
first_of (test ∷ tests) = if test.0 then Some test.1 else first_of tests

-- ---- tests

abbrev pub is_stopped : List ℕ → State → Bool
is_stopped name s = is_some_and (λ j. j.stopped) (job_of name s)

-- whether a new row of the job would pass the limit
abbrev pub jobs_pass : List ℕ → State → Bool
jobs_pass name s = no_job name s && nat_lt most_jobs (length s.jobs + 1)

-- whether so many new evaluations would pass the limit
abbrev pub evals_pass : ℕ → State → Bool
evals_pass more s = nat_lt most_evals (length s.evals + more)

-- how many jobs with a row there are of that kind: as many evaluations are made to touch them
abbrev pub those_jobs : (Job → Bool) → State → ℕ
those_jobs those s = length (filter those s.jobs)

-- whether the evaluations that touch the jobs of that kind would pass the limit
abbrev pub new_evals_pass : (Job → Bool) → State → Bool
new_evals_pass those s = evals_pass (those_jobs those s) s

abbrev pub differs : NodeSpec → Node → Bool
differs n old = not (bytes_eq old.class n.class && same_size old.size n.size)

abbrev pub drains : ℕ → State → Bool
drains n s = is_some_and (λ r. is_draining r.drain) (node_of n s)

-- whether an allocation is live, on a node that is being drained
abbrev pub can_move : State → AllocId → Bool
can_move s id = is_some_and (λ a. is_live a && drains a.node s) (alloc_of id s)

-- an evaluation becomes pending from blocked, and anything else from pending
abbrev pub allows : StatusChange → EvalStatus → Bool
allows changes.Pending status = is_blocked status
allows _ status = is_pending status

abbrev pub is_live_of : List ℕ → State → AllocId → Bool
is_live_of job s id = is_some_and (λ a. is_live a && bytes_eq a.job job) (alloc_of id s)

-- whether a node takes what a group asks for
abbrev pub may_hold : Group → Node → Bool
may_hold g n = is_ready n.status && n.eligible && bytes_eq n.class g.class

-- whether a place is one that the group asks for, on a node that takes it
abbrev pub is_asked : State → AcceptedPlace → Group → Bool
is_asked s k g =
    bytes_eq g.name k.group && same_size g.size k.size && nat_lt k.index g.count
    && is_some_and (may_hold g) (node_of k.node s)

abbrev pub fits_job : State → List ℕ → AcceptedPlace → Bool
fits_job s job k = is_some_and (λ j. list_any (is_asked s k) j.groups) (job_of job s)

-- whether a report is of an allocation on that node
abbrev pub is_its_own : State → ℕ → Report → Bool
is_its_own s n r = is_some_and (λ a. nat_eq a.node n) (alloc_of r.id s)

-- ---- the table: the tests of each command, in their order

abbrev pub tests : State → Command → List (Bool × Refusal)
tests s commands.Noop = []
tests s (commands.JobPut j) =
    (jobs_pass j.name s || evals_pass 1 s, refusals.TableFull)
    ∷ []
tests s (commands.JobStop name) =
    (no_job name s, refusals.UnknownJob)
    ∷ (is_stopped name s, refusals.JobStopped)
    ∷ (new_evals_pass (is_named name) s, refusals.TableFull)
    ∷ []
tests s (commands.NodePut n) =
    (is_some_and (differs n) (node_of n.number s), refusals.NodeDiffers)
    ∷ []
tests s (commands.NodeDown n) =
    (no_node n s, refusals.UnknownNode)
    ∷ (is_some_and (λ r. is_down r.status) (node_of n s), refusals.StaleExpiry)
    ∷ (new_evals_pass (owns (lives_on n) s.allocs) s, refusals.TableFull)
    ∷ []
tests s (commands.Disconnect n) =
    (no_node n s, refusals.UnknownNode)
    ∷ (is_some_and (λ r. not (is_ready r.status)) (node_of n s), refusals.StaleExpiry)
    ∷ []
tests s (commands.Drain n force) =
    (no_node n s, refusals.UnknownNode)
    ∷ []
tests s (commands.DrainDone n) =
    (no_node n s, refusals.UnknownNode)
    ∷ (not (drains n s) || list_any (lives_on n) s.allocs, refusals.NotDraining)
    ∷ []
tests s (commands.Migrate ids) =
    (list_any (λ id. no_alloc id s) ids, refusals.UnknownAlloc)
    ∷ (not (list_all (can_move s) ids), refusals.NotDraining)
    ∷ (new_evals_pass (owns (moves ids) s.allocs) s, refusals.TableFull)
    ∷ []
tests s (commands.EvalPut name) =
    (no_job name s, refusals.UnknownJob)
    ∷ (new_evals_pass (is_named name) s, refusals.TableFull)
    ∷ []
tests s (commands.EvalStatus id to) =
    (not (is_some_and (λ e. allows to e.status) (eval_of id s)), refusals.NotOutstanding)
    ∷ []
tests s (commands.Plan p) =
    (not (is_some_and (λ e. is_pending e.status) (eval_of p.eval s)), refusals.NotOutstanding)
    ∷ (no_job p.job s, refusals.UnknownJob)
    ∷ (not (list_all (is_live_of p.job s) p.stops), refusals.UnknownAlloc)
    ∷ (nat_lt most_allocs (length s.allocs + length p.places), refusals.TableFull)
    ∷ (is_stopped p.job s && nat_lt 0 (length p.places), refusals.JobStopped)
    ∷ (not (list_all (fits_job s p.job) p.places), refusals.OutOfRange)
    ∷ (not (is_safe (planned p (with_next_count s))), refusals.OutOfRange)
    ∷ []
tests s (commands.Report n rs) =
    (no_node n s, refusals.UnknownNode)
    ∷ (not (list_all (is_its_own s n) rs), refusals.UnknownAlloc)
    ∷ (new_evals_pass (owns (is_ended_by (told_all n rs)) s.allocs) s, refusals.TableFull)
    ∷ []

-- why the state refuses the command, if it does
abbrev pub admission : State → Command → Option Refusal
admission s c = first_of (tests s c)
