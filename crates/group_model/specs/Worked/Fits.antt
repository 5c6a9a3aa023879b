-- What fits and what is missing: places of a plan, lists of an agent, groups of a drained node, names
-- of a job.
use Rattle.std.specs.Prelude.{◌≡◌, ℕ, true, false, Ok, Err, List, [], ◌∷◌, map, nat_le}
use Rattle.rows.specs.declared.refusal.Refusal.TheVariants as refusals
use Rattle.rows.specs.declared.size.Size.{Size}
use Rattle.rows.specs.declared.job.Job.{Job}
use Rattle.rows.specs.declared.node.Node.{Node}
use Rattle.rows.specs.declared.node.NodeStatus.TheVariants as statuses
use Rattle.rows.specs.declared.node.DrainMode.TheVariants as drains
use Rattle.rows.specs.declared.listing.LiveState.TheVariants as live_states
use Rattle.rows.specs.declared.plan.Place.{Place}
use Rattle.rows.specs.declared.command.Command.TheVariants as commands
use Rattle.fsm_model.specs.Words.{State}
use Rattle.fsm_model.specs.Effect.{applied}
use Rattle.fsm_model.specs.Worked.Words.{linux, web, api, main, size, size_with_disk, alloc_id, mains, runs}
use Rattle.group_model.specs.Acceptance.{Accepted, accept, keeps_some}
use Rattle.group_model.specs.Drains.{moves_of}
use Rattle.group_model.specs.Scheduling.{WantedName, missing_names}
use Rattle.group_model.specs.NextStep.{MOST_PLANS}
use Rattle.group_model.specs.Agents as agents
use Rattle.group_model.specs.Messages.{ToServer, Register, Heartbeat, Pull, Listing}
use Rattle.group_model.specs.Worked.Words.{alloc_row, one_runs}
use Rattle.group_model.specs.Worked.PlanChecks.{moves_it}
use Rattle.group_model.specs.Worked.Agents.{agent, lists, said, runs_eight, after_lists, after_nine}
use Rattle.group_model.specs.Worked.Scheduling.{both_live, asks_for_one}

-- ---- a plan that stops 5.0 and places main[0] of `web` on node 2, with a part of it changed

abbrev pub roomy : State
roomy = one_runs (size 1 1)

-- what is left of it where node 2 takes nothing
abbrev pub stop_alone : Accepted
stop_alone = record { stops = alloc_id 5 0 ∷ []; places = []; refused = 2 ∷ [] }

abbrev pub at_two : List ℕ → ℕ → List Place
at_two group index = record { group = group; index = index; node = 2 } ∷ []

-- an index past the count; a group that the job does not have
abbrev pub PastTheCount : Type 0
PastTheCount = accept roomy (record (moves_it 4) { places = at_two main 1 }) 6 ≡ Ok stop_alone

abbrev pub OtherGroup : Type 0
OtherGroup = accept roomy (record (moves_it 4) { places = at_two api 0 }) 6 ≡ Ok stop_alone

-- a node that is not eligible; one that is down, or disconnected; one of another class
abbrev pub with_two : (Node → Node) → State
with_two f = record roomy { nodes = map f roomy.nodes }

abbrev pub NotEligible : Type 0
NotEligible = accept (with_two (λ n. record n { eligible = false })) (moves_it 4) 6 ≡ Ok stop_alone

abbrev pub NotReady : Type 0
NotReady = accept (with_two (λ n. record n { status = statuses.Down })) (moves_it 4) 6 ≡ Ok stop_alone

abbrev pub IsAway : Type 0
IsAway = accept (with_two (λ n. record n { status = statuses.Disconnected })) (moves_it 4) 6 ≡ Ok stop_alone

abbrev pub NotOfTheClass : Type 0
NotOfTheClass = accept (with_two (λ n. record n { class = api })) (moves_it 4) 6 ≡ Ok stop_alone

-- the name lives still, on node 1
abbrev pub NameLives : Type 0
NameLives = accept roomy (record (moves_it 4) { stops = [] }) 6 ≡ Ok (record { stops = []; places = []; refused = 2 ∷ [] })

-- a later version; a job that is stopped; an evaluation of another job
abbrev pub LaterVersion : Type 0
LaterVersion = accept roomy (moves_it 5) 6 ≡ Err refusals.JobChanged

abbrev pub job_row : List ℕ → Job
job_row name = record { name = name; priority = 50; stopped = true; version = 4; groups = mains 1 (size 600 300) }

abbrev pub JobIsStopped : Type 0
JobIsStopped = accept (record roomy { jobs = job_row web ∷ [] }) (moves_it 4) 6 ≡ Err refusals.JobStopped

abbrev pub OtherEvaluation : Type 0
OtherEvaluation = accept (record roomy { jobs = job_row api ∷ [] }) (record (moves_it 4) { job = api }) 6 ≡ Err refusals.UnknownJob

-- a stop alone is something to append; nothing is not
abbrev pub StopIsSome : Type 0
StopIsSome = keeps_some stop_alone ≡ true

abbrev pub NothingIsNone : Type 0
NothingIsNone = keeps_some (record stop_alone { stops = [] }) ≡ false

-- ---- what an agent of 1000 cpu and 1000 memory, and of no disk, is listed

abbrev pub lists_of : Size → agents.Input
lists_of z = agents.Arrives 0 (Listing 9 (record { id = alloc_id 8 0; size = z; state = live_states.Pending } ∷ []))

-- what takes all of its node starts; what takes more does not, and nothing is said of it
abbrev pub TakesAll : Type 0
TakesAll = said (agents.step 3 agent (lists_of (size 1000 1000))) ≡ runs_eight

abbrev pub TooMuchCpu : Type 0
TooMuchCpu = said (agents.step 3 agent (lists_of (size 1001 1000))) ≡ []

abbrev pub TooMuchMemory : Type 0
TooMuchMemory = said (agents.step 3 agent (lists_of (size 1000 1001))) ≡ []

abbrev pub TooMuchDisk : Type 0
TooMuchDisk = said (agents.step 3 agent (lists_of (size_with_disk 1000 1000 1))) ≡ []

-- of two that do not fit together the first starts
abbrev pub FirstOfTwo : Type 0
FirstOfTwo = said (agents.step 3 agent (agents.Arrives 0 (Listing 9 (
    record { id = alloc_id 8 0; size = size 600 300; state = live_states.Pending }
    ∷ record { id = alloc_id 9 0; size = size 500 300; state = live_states.Pending }
    ∷ [])))) ≡ runs_eight

-- what is listed as unknown starts as any other, and is reported where it runs
abbrev pub UnknownStarts : Type 0
UnknownStarts = said (agents.step 3 agent (lists 9 8 live_states.Unknown)) ≡ runs_eight

abbrev pub UnknownIsSaid : Type 0
UnknownIsSaid = said (agents.step 3 after_nine (lists 9 8 live_states.Unknown)) ≡ runs_eight

-- what the list says already is not reported; what is not listed runs no more
abbrev pub KnownIsNotSaid : Type 0
KnownIsNotSaid = said (agents.step 3 after_nine (lists 9 8 live_states.Running)) ≡ []

abbrev pub UnlistedStops : Type 0
UnlistedStops = agents.step 3 (after_lists after_nine (agents.Arrives 0 (Listing 10 []) ∷ [])) (agents.End (alloc_id 8 0) true) ≡ Err refusals.UnknownAlloc

-- what it asks of a server
abbrev pub PingIsHeartbeat : Type 0
PingIsHeartbeat = said (agents.step 3 agent (agents.Ping 1)) ≡ ToServer 1 1 Heartbeat ∷ []

abbrev pub PullsItsList : Type 0
PullsItsList = said (agents.step 3 agent (agents.PullFrom 1)) ≡ ToServer 1 1 Pull ∷ []

abbrev pub RegistersItsNode : Type 0
RegistersItsNode = said (agents.step 3 agent (agents.RegisterAt 2)) ≡ ToServer 1 2 (Register linux (size 1000 1000)) ∷ []

-- ---- two groups of a job on a node that drains: one of each moves

abbrev pub two_groups : State
two_groups = record roomy { allocs = alloc_row (alloc_id 5 0) web 0 1 (size 400 300) ∷ record (alloc_row (alloc_id 5 1) web 0 1 (size 400 300)) { group = api } ∷ [] }

abbrev pub OneOfEachGroup : Type 0
OneOfEachGroup = moves_of drains.Slow 1 two_groups ≡ alloc_id 5 0 ∷ alloc_id 5 1 ∷ []

-- ---- the names of `web` that are missing, by their indexes

abbrev pub missing_in : State → List ℕ
missing_in s = map (λ (w : WantedName). w.index) (missing_names s web)

-- both live; one is marked to move; the size is another; no node is of the class
abbrev pub NoneIsMissing : Type 0
NoneIsMissing = missing_in both_live ≡ []

abbrev pub MarkedIsMissing : Type 0
MarkedIsMissing = missing_in (applied both_live (commands.Migrate (alloc_id 5 1 ∷ []))) ≡ 1 ∷ []

abbrev pub OfOtherSize : Type 0
OfOtherSize = missing_in (asks_for_one 700) ≡ 0 ∷ []

abbrev pub OfOtherDisk : Type 0
OfOtherDisk = missing_in (applied both_live (runs web 2 (size_with_disk 600 300 1))) ≡ 0 ∷ 1 ∷ []

abbrev pub OfOtherClass : Type 0
OfOtherClass = missing_in (record both_live { nodes = map (λ (n : Node). record n { class = api }) both_live.nodes }) ≡ 0 ∷ 1 ∷ []

-- what is unknown on a disconnected node is not missing; what is lost with its node is
abbrev pub UnknownIsThere : Type 0
UnknownIsThere = missing_in (applied both_live (commands.Disconnect 1)) ≡ []

abbrev pub LostIsMissing : Type 0
LostIsMissing = missing_in (applied both_live (commands.NodeDown 1)) ≡ 0 ∷ []

abbrev pub LostFromUnknown : Type 0
LostFromUnknown = missing_in (applied (applied both_live (commands.Disconnect 1)) (commands.NodeDown 1)) ≡ 0 ∷ []

-- ---- plans of one delivery

abbrev pub SixteenAreMost : Type 0
SixteenAreMost = nat_le MOST_PLANS 16 ≡ true

abbrev pub FifteenAreFewer : Type 0
FifteenAreFewer = nat_le MOST_PLANS 15 ≡ false
