-- Which steps would be of use to a group as it stands.
use Rattle.std.specs.Prelude.{ℕ, Bool, true, false, not, ◌&&◌, ◌||◌, nat_le, nat_lt, bytes_eq, slice_get, Option, Some, None, List, filter, map}
use Rattle.std.specs.List.{list_any}
use Rattle.rows.specs.State.{State}
use Rattle.rows.specs.declared.allocation.AllocId.{AllocId}
use Rattle.rows.specs.declared.allocation.Allocation.{Allocation}
use Rattle.rows.specs.declared.allocation.ClientState.{ClientState}
use Rattle.rows.specs.declared.allocation.ClientState.TheVariants.{Running as RunningState}
use Rattle.rows.specs.declared.command.Command.{Command}
use Rattle.rows.specs.declared.evaluation.Evaluation.{Evaluation}
use Rattle.rows.specs.declared.worker.Work.{Work}
use Rattle.rows.specs.declared.worker.WorkerResponse.{WorkerResponse}
use Rattle.rows.specs.declared.worker.WorkerResponse.TheVariants.{Delivered, PlanResult}
use Rattle.fsm_model.specs.Words.{same_alloc}
use Rattle.fsm_tables.specs.Lookups.{lives_on}
use Rattle.raft_model.specs.Rafts.{Raft, is_up}
use Rattle.group_model.specs.Agents.{Life, Running, runs}
use Rattle.group_model.specs.Brokers.{MOST, Task, is_free, task_of}
use Rattle.leader.specs.OpenDesks.{OpenDesk}
use Rattle.client_agent.specs.AgentView.{AgentView}
use Rattle.server.specs.ServerViews.{ServerView}
use Rattle.workers.specs.PlanCounts.{WorkersView}
use Rattle.sim_play.specs.declared.play.Play.{Play}

-- ---- workers

-- from which state on a worker does something with an answer
abbrev pub wait_of : WorkerResponse → ℕ
wait_of (Delivered (Some d)) = d.wait
wait_of (PlanResult r) = r.last
wait_of _ = 0

-- a server is up, and the oldest that waits for its workers asks for no later state
abbrev pub is_ready : Raft Command → Option Work → Bool
is_ready s None = false
is_ready s (Some work) = is_up s.mode && nat_le (wait_of work.response) s.commit

abbrev pub goes_on_at : Option ServerView → Option WorkersView → Bool
goes_on_at (Some view) (Some workers) = is_ready view.raft.server (slice_get workers.waiting 0)
goes_on_at _ _ = false

-- a worker of this server of a play does something with the oldest that waits for it
abbrev pub goes_on : Play → ℕ → Bool
goes_on play server = goes_on_at (slice_get play.world.servers server) (slice_get play.workers server)

-- ---- evaluations

-- it is with a worker, or done
abbrev pub is_taken : Option Task → Bool
is_taken None = false
is_taken (Some t) = not (is_free t.mark)

-- it is free, and was given out less than three times
abbrev pub may_go : Option Task → Bool
may_go None = false
may_go (Some t) = nat_lt t.deliveries MOST && is_free t.mark

-- the jobs of which an evaluation is with a worker or done
abbrev pub busy_jobs : List Task → List Evaluation → List (List ℕ)
busy_jobs tasks evals = map (λ (e : Evaluation). e.job) (filter (λ (e : Evaluation). is_taken (task_of e.id tasks)) evals)

abbrev pub is_in : List (List ℕ) → List ℕ → Bool
is_in jobs job = list_any (λ other. bytes_eq other job) jobs

-- it may go, and its job is none of these
abbrev pub goes_first : List Task → List (List ℕ) → Evaluation → Bool
goes_first tasks busy e = may_go (task_of e.id tasks) && not (is_in busy e.job)

-- some evaluation is given out where one is asked for
abbrev pub gives_one : List Task → List Evaluation → Bool
gives_one tasks evals = list_any (goes_first tasks (busy_jobs tasks evals)) evals

-- a desk over a state gives one out; none does that is closed
abbrev pub gives_out : Option OpenDesk → State → Bool
gives_out None s = false
gives_out (Some o) s = gives_one o.desk.broker.tasks s.evals

-- ---- clients

abbrev pub is_listed : List Allocation → AllocId → Bool
is_listed rows id = list_any (λ (a : Allocation). same_alloc a.id id) rows

abbrev pub stops_by : List Allocation → List Running → Bool
stops_by rows running = list_any (λ (r : Running). not (is_listed rows r.id)) running

abbrev pub starts_by : List Allocation → List AllocId → Bool
starts_by rows started = list_any (λ (a : Allocation). not (list_any (same_alloc a.id) started)) rows

-- something runs that is not listed, or is listed and was never started
abbrev pub changes_by : List Allocation → List Running → List AllocId → Bool
changes_by rows running started = stops_by rows running || starts_by rows started

abbrev pub is_running : ClientState → Bool
is_running RunningState = true
is_running _ = false

-- it runs, and is known to
abbrev pub is_known : List Running → Allocation → Bool
is_known running a = is_running a.client && runs running a.id

abbrev pub has_news : List Running → List Allocation → Bool
has_news running rows = list_any (λ (a : Allocation). not (is_known running a)) rows

abbrev pub list_helps : Bool → ℕ → List Allocation → List AllocId → Option Life → Bool
list_helps news index rows started None = false
list_helps news index rows started (Some l) =
    not (nat_lt index l.seen) && (changes_by rows l.running started || (news && has_news l.running rows))

-- It is of use that a client asks for the list of a server in this state: it is up, has taken no
-- later list, and something starts or stops by it; with `news` also where something is reported.
abbrev pub is_asking : Bool → State → AgentView → Bool
is_asking news s a = list_helps news s.count (filter (lives_on a.client.node.number) s.allocs) a.client.started a.client.life
