-- Turns of the desk, and what it is asked: a drained node, evaluations that room makes pending
-- again, ends that the log refuses, and who is asked.
use Rattle.std.specs.Prelude.{◌≡◌, ℕ, true, Option, Some, None, Result, Ok, Err, List, [], ◌∷◌, ◌++◌, take}
use Rattle.rows.specs.declared.refusal.Refusal.{Refusal}
use Rattle.rows.specs.declared.refusal.Refusal.TheVariants as refusals
use Rattle.rows.specs.declared.command.ReportedState.TheVariants as reported
use Rattle.rows.specs.declared.command.StatusChange.TheVariants as changes
use Rattle.rows.specs.declared.command.Command.{Command}
use Rattle.rows.specs.declared.command.Command.TheVariants as commands
use Rattle.rows.specs.declared.reason.Reason.TheVariants as reasons
use Rattle.rows.specs.declared.worker.ClientRequestKind.TheVariants as kinds
use Rattle.rows.specs.declared.worker.EvalOutcome.TheVariants as outcomes
use Rattle.rows.specs.declared.worker.WorkerRequest.TheVariants.{Finish}
use Rattle.rows.specs.declared.worker.AskedRequest.TheVariants as asked
use Rattle.rows.specs.declared.worker.WorkerResponse.TheVariants.{Delivered, Refused}
use Rattle.machine_model.specs.declared.entry.Entry.{Entry}
use Rattle.raft_model.specs.Rafts as rafts
use Rattle.fsm_model.specs.Words.{no_rows}
use Rattle.fsm_model.specs.Worked.Words.{size, eval_id, alloc_id, comes}
use Rattle.group_model.specs.Brokers.{outstanding}
use Rattle.group_model.specs.Agents as agents
use Rattle.group_model.specs.Desks.{Desk, after_entries}
use Rattle.group_model.specs.Inputs as inputs
use Rattle.group_model.specs.Servers as servers
use Rattle.group_model.specs.Servers.{Server}
use Rattle.group_model.specs.Messages.{Service, BetweenServers, ToServer, Heartbeat, Asks, Answers}
use Rattle.group_model.specs.Worked.Words.{token, entry, leads, log, leader, after_inputs, sent_by, narrow, at_narrow}
use Rattle.group_model.specs.Worked.PlanTurns.{takes_from, a_is_placed}
use Rattle.group_model.specs.Worked.Deliveries.{asks, lapse, thrice, failed_at}
use Rattle.group_model.specs.Worked.Requests.{registers, told}
use Rattle.group_model.specs.Worked.Agents.{agent}

-- the leader of term 1 with this log, of which so many entries are applied
abbrev pub leads_with : List (Entry Command) → ℕ → Server
leads_with entries commit = leads entries commit (after_entries 1 no_rows (take commit entries) None)

abbrev pub log_after : Server → inputs.Input → List (Entry Command)
log_after s input = (after_inputs s (input ∷ [])).raft.log

-- why an input is refused, if it is
abbrev pub refusal_of : Result servers.ServerTurn Refusal → Option Refusal
refusal_of (Ok turn) = None
refusal_of (Err r) = Some r

-- ---- a drained node: job a runs on node 1, as allocation (5, 0), and node 1 drains

abbrev pub draining : List (Entry Command)
draining = narrow ++ entry 1 a_is_placed ∷ entry 1 (commands.Drain 1 true) ∷ []

-- It is marked to move, also where the drain is not applied yet.
abbrev pub MarksIt : Type 0
MarksIt = log_after (leads_with draining 6) (inputs.DrainTurn 1) ≡ draining ++ entry 1 (commands.Migrate (alloc_id 5 0 ∷ [])) ∷ []

abbrev pub ReadAfterTheLog : Type 0
ReadAfterTheLog = log_after (leads_with draining 5) (inputs.DrainTurn 1) ≡ draining ++ entry 1 (commands.Migrate (alloc_id 5 0 ∷ [])) ∷ []

-- Once it is marked there is nothing to do, and once it ended the drain is done.
abbrev pub marked : List (Entry Command)
marked = draining ++ entry 1 (commands.Migrate (alloc_id 5 0 ∷ [])) ∷ []

abbrev pub MarksOnce : Type 0
MarksOnce = log_after (leads_with marked 6) (inputs.DrainTurn 1) ≡ marked

abbrev pub emptied : List (Entry Command)
emptied = marked ++ entry 1 (commands.Report 1 (record { id = alloc_id 5 0; state = reported.Complete } ∷ [])) ∷ []

abbrev pub DrainIsDone : Type 0
DrainIsDone = log_after (leads_with emptied 8) (inputs.DrainTurn 1) ≡ emptied ++ entry 1 (commands.DrainDone 1) ∷ []

-- ---- job a's evaluation is blocked, as found at index 5; then node 2 comes with room

abbrev pub blocked : List (Entry Command)
blocked = narrow ++ entry 1 (commands.EvalStatus (eval_id 3 0) (changes.Blocked 5)) ∷ []

abbrev pub roomy : List (Entry Command)
roomy = blocked ++ entry 1 (comes 2 (size 1000 1000)) ∷ []

abbrev pub NoneIsDue : Type 0
NoneIsDue = log_after (leads_with blocked 5) inputs.FreeTurn ≡ blocked

-- It becomes pending, once; room is that of the applied state.
abbrev pub freed : List (Entry Command)
freed = roomy ++ entry 1 (commands.EvalStatus (eval_id 3 0) changes.Pending) ∷ []

abbrev pub Frees : Type 0
Frees = log_after (leads_with roomy 6) inputs.FreeTurn ≡ freed

abbrev pub FreesOnce : Type 0
FreesOnce = log_after (leads_with freed 6) inputs.FreeTurn ≡ freed

-- with nothing to do a turn is no refusal, of evaluations that are due and of those that failed
abbrev pub FreesQuietly : Type 0
FreesQuietly = refusal_of (servers.step 3 0 (leads_with freed 6) inputs.FreeTurn) ≡ None

abbrev pub ReapsQuietly : Type 0
ReapsQuietly = refusal_of (servers.step 3 0 (after_inputs leader (thrice ++ inputs.Reap ∷ [])) inputs.Reap) ≡ None

abbrev pub RoomIsApplied : Type 0
RoomIsApplied = log_after (leads_with roomy 5) inputs.FreeTurn ≡ roomy

-- Room at the very index at which it was found blocked makes it not due.
abbrev pub room_before : List (Entry Command)
room_before = narrow ++ entry 1 (comes 2 (size 1000 1000)) ∷ entry 1 (commands.EvalStatus (eval_id 3 0) (changes.Blocked 5)) ∷ []

abbrev pub RoomItKnewOf : Type 0
RoomItKnewOf = log_after (leads_with room_before 6) inputs.FreeTurn ≡ room_before

-- ---- deliveries, and their ends

-- A state is waited for that has all that is in the log.
abbrev pub ended_unapplied : List (Entry Command)
ended_unapplied = narrow ++ entry 1 (commands.EvalStatus (eval_id 3 0) changes.Failed) ∷ []

abbrev pub WaitsForTheLog : Type 0
WaitsForTheLog = sent_by (servers.step 3 0 (leads_with ended_unapplied 4) (takes_from 1))
    ≡ Service (BetweenServers 0 1 (Answers (Delivered (Some (record { eval = eval_id 3 0; token = token 1 1; wait = 5 }))))) ∷ []

-- An end that the log refuses, since the evaluation failed already, goes back as refused, and the
-- evaluation stays with its worker.
abbrev pub finishes_it : inputs.Input
finishes_it = inputs.Arrives (BetweenServers 1 0 (Asks (Finish (eval_id 3 0) (token 1 1) outcomes.Complete)))

abbrev pub given_out : Server
given_out = after_inputs (leads_with ended_unapplied 4) (takes_from 1 ∷ [])

abbrev pub EndRefused : Type 0
EndRefused = sent_by (servers.step 3 0 given_out finishes_it)
    ≡ Service (BetweenServers 0 1 (Answers (Refused (asked.Finish (eval_id 3 0) (token 1 1)) reasons.NotOutstanding))) ∷ []

abbrev pub held_by : Option Desk → Result ℕ Refusal
held_by None = Err refusals.NotOpen
held_by (Some d) = outstanding (eval_id 3 0) (token 1 1) d.broker

abbrev pub StaysOut : Type 0
StaysOut = held_by (after_inputs given_out (finishes_it ∷ [])).desk ≡ Ok 5

-- What is out for the third time is not failed.
abbrev pub OutForTheLast : Type 0
OutForTheLast = failed_at (after_inputs leader (asks ∷ lapse ∷ asks ∷ lapse ∷ asks ∷ [])).desk ≡ []

-- ---- who is asked

-- A server that does not lead names the leader that it knows, whatever stands where its desk did.
abbrev pub follows : Server
follows = record { raft = record at_narrow.raft { mode = rafts.Follower; known = Some 2 }; desk = at_narrow.desk }

abbrev pub NamesTheLeader : Type 0
NamesTheLeader = sent_by (servers.step 3 0 follows (takes_from 1)) ≡ Service (BetweenServers 0 1 (Answers (Refused asked.Take (reasons.NotLeader (Some 2))))) ∷ []

abbrev pub ToldTheLeader : Type 0
ToldTheLeader = sent_by (servers.step 3 0 follows (registers (size 1000 1000))) ≡ told kinds.Register (Some (reasons.NotLeader (Some 2)))

-- Nobody is asked, or heard, outside the group.
abbrev pub AsksNoStranger : Type 0
AsksNoStranger = refusal_of (servers.step 3 0 at_narrow (inputs.TakeFrom 3)) ≡ Some refusals.OutOfRange

abbrev pub TakesNoStranger : Type 0
TakesNoStranger = refusal_of (servers.step 3 0 at_narrow (takes_from 3)) ≡ Some refusals.OutOfRange

abbrev pub client_refusal : Result agents.AgentTurn Refusal → Option Refusal
client_refusal (Ok turn) = None
client_refusal (Err r) = Some r

abbrev pub PingsNoStranger : Type 0
PingsNoStranger = client_refusal (agents.step 3 agent (agents.Ping 3)) ≡ Some refusals.OutOfRange

-- A heartbeat is its own node's alone.
abbrev pub OneHeartbeat : Type 0
OneHeartbeat = (after_inputs leader (inputs.Arrives (ToServer 1 0 Heartbeat) ∷ inputs.Expire 2 0 ∷ [])).raft.log ≡ log ++ entry 1 (commands.Disconnect 2) ∷ []
