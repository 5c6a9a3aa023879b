-- What workers and the leader's desk tell each other, and what an agent is told and shown.
use Rattle.std.specs.Prelude.{ℕ, zero, suc, ◌+◌, ◌^◌, Bool, ◌||◌, nat_eq, List, [], ◌∷◌, Option, Some, None, if◌then◌else◌}
use Rattle.rows.specs.Rising.{is_behind}
use Rattle.rows.specs.Versions.{newest}
use Rattle.rows.specs.Ids.{alloc_cmp, node_rises}
use Rattle.rows.specs.Listings.{listed_id, listed_rises}
use Rattle.rows.specs.Reasons.{reason_number}
use Rattle.rows.specs.declared.evaluation.EvalId.{EvalId}
use Rattle.rows.specs.declared.token.Token.{Token}
use Rattle.rows.specs.declared.reason.Reason.{Reason}
use Rattle.rows.specs.declared.reason.Reason.TheVariants as reasons
use Rattle.rows.specs.declared.worker.EvalOutcome.{EvalOutcome}
use Rattle.rows.specs.declared.worker.EvalOutcome.TheVariants as outcomes
use Rattle.rows.specs.declared.worker.AskedRequest.{AskedRequest}
use Rattle.rows.specs.declared.worker.AskedRequest.TheVariants as asked
use Rattle.rows.specs.declared.worker.PlanResult.{PlanResult}
use Rattle.rows.specs.declared.worker.ClientRequestKind.{ClientRequestKind}
use Rattle.rows.specs.declared.worker.ClientRequestKind.TheVariants as client_requests
use Rattle.rows.specs.declared.size.Size.{Size}
use Rattle.rows.specs.declared.allocation.AllocId.{AllocId}
use Rattle.rows.specs.declared.listing.LiveState.{LiveState}
use Rattle.rows.specs.declared.listing.LiveState.TheVariants as live_states
use Rattle.rows.specs.declared.listing.ListedAllocation.{ListedAllocation}
use Rattle.fields_model.specs.Format.{Format, number, made, ◌then◌, depends, coded, kept, enumerated, keyed, keyed_behind, numbered, with_number, ruled_list, tagged, variant, never, choice}
use Rattle.fields_model.specs.Fields.{byte, index}
use Rattle.fields_model.specs.Ids.{size, node_id, evaluation_id, allocation_id, token}

-- ---- what became of an evaluation, and of a plan

-- one byte: 1 blocked, 2 complete, 3 failed; and the index of the state at which the evaluation was
-- found blocked, which is 0 for any other
abbrev pub outcome_limit : ℕ → ℕ
outcome_limit status = if nat_eq status 1 then 2 ^ 40 else 1

abbrev pub eval_outcome_of : ℕ × ℕ → EvalOutcome
eval_outcome_of p =
    if nat_eq p.0 1 then outcomes.Blocked p.1
    else if nat_eq p.0 2 then outcomes.Complete
    else outcomes.Failed

abbrev pub outcome_parts : EvalOutcome → ℕ × ℕ
outcome_parts (outcomes.Blocked snapshot) = (1, snapshot)
outcome_parts outcomes.Complete = (2, 0)
outcome_parts outcomes.Failed = (3, 0)

abbrev pub eval_outcome : Format EvalOutcome
eval_outcome = made eval_outcome_of outcome_parts (depends (number 1 1 4) 8 (λ status. number 8 0 (outcome_limit status)))

-- one byte: how many of a plan's allocations were placed, at most 64
abbrev pub place_count : Format ℕ
place_count = number 1 0 65

-- a node behind others that rise; and a list of such nodes, whose count has no limit of its own
abbrev pub node_id_behind : List ℕ → Format ℕ
node_id_behind front = kept (node_rises front) node_id

abbrev pub rising_nodes : Format (List ℕ)
rising_nodes = ruled_list 1 255 node_rises node_id node_id_behind

-- what became of a plan: evaluation, token, last index, how many were placed, and the nodes refused
abbrev pub plan_result : Format PlanResult
plan_result = made (λ p. let end = p.1.1 in record { eval = p.0; token = p.1.0; last = end.0; placed = end.1.0; refused = end.1.1 })
    (λ r. (r.eval, (r.token, (r.last, (r.placed, r.refused))))) (evaluation_id then token then index then place_count then rising_nodes)

-- ---- refusals

-- one byte: 0 where no leader is known, or the leader's number from 1 to 5, which is its place plus
-- one; only refusal 2 tells one
abbrev pub leader_of : ℕ → Option ℕ
leader_of zero = None
leader_of (suc place) = Some place

abbrev pub leader_number : Option ℕ → ℕ
leader_number None = 0
leader_number (Some place) = place + 1

abbrev pub leader_limit : ℕ → ℕ
leader_limit refusal = if nat_eq refusal 2 then 6 else 1

abbrev pub told_leader : ℕ → Format (Option ℕ)
told_leader refusal = made leader_of leader_number (number 1 0 (leader_limit refusal))

-- the reasons, of which number 2 tells this leader
abbrev pub reasons_with : Option ℕ → List Reason
reasons_with leader =
    reasons.NoMemory ∷ reasons.NotLeader leader ∷ reasons.NotOpen ∷ reasons.NotOutstanding ∷ reasons.TokenDiffers
    ∷ reasons.SnapshotTooOld ∷ reasons.JobChanged ∷ reasons.UnknownJob ∷ reasons.UnknownNode ∷ reasons.NodeDiffers
    ∷ reasons.BadName ∷ reasons.OutOfRange ∷ reasons.TableFull ∷ reasons.Exhausted ∷ reasons.Frame ∷ reasons.Down
    ∷ reasons.QueueFull ∷ reasons.JobStopped ∷ reasons.StaleExpiry ∷ reasons.NotDraining ∷ reasons.UnknownAlloc ∷ []

abbrev pub reason_leader : Reason → Option ℕ
reason_leader (reasons.NotLeader leader) = leader
reason_leader _ = None

abbrev pub told_of : ℕ × Option ℕ → Option Reason
told_of p = with_number reason_number (reasons_with p.1) p.0

abbrev pub told_parts : Option Reason → ℕ × Option ℕ
told_parts None = (0, None)
told_parts (Some r) = (reason_number r, reason_leader r)

-- a number from this one to 21, of which 0 is no refusal, and the leader
abbrev pub told_from : ℕ → Format (Option Reason)
told_from least = made told_of told_parts (depends (number 1 least 22) 1 told_leader)

-- that a request is taken, or why it is refused; and why alone
abbrev pub told_reason : Format (Option Reason)
told_reason = told_from 0

abbrev pub reason : Format Reason
reason = coded (λ o. o) (λ r. Some r) (told_from 1)

-- ---- which request is answered

-- one byte: 7 take, 9 submit, 11 finish, 12 nack; then an option of the evaluation and the token,
-- which is none exactly for 7
abbrev pub asked_number : AskedRequest → ℕ
asked_number asked.Take = 7
asked_number (asked.Submit _ _) = 9
asked_number (asked.Finish _ _) = 11
asked_number (asked.Nack _ _) = 12

abbrev pub is_asked_number : ℕ → Bool
is_asked_number n = nat_eq n 7 || nat_eq n 9 || nat_eq n 11 || nat_eq n 12

abbrev pub no_pair : Format (Unit {0})
no_pair = made (λ _. tt) (λ _. 0) (number 1 0 1)

abbrev pub a_pair : Format (EvalId × Token)
a_pair = made (λ p. p.1) (λ pair. (1, pair)) (number 1 1 2 then evaluation_id then token)

abbrev pub asked_take_of : AskedRequest → Option (Unit {0})
asked_take_of asked.Take = Some tt
asked_take_of _ = None

abbrev pub asked_submit_of : AskedRequest → Option (EvalId × Token)
asked_submit_of (asked.Submit eval t) = Some (eval, t)
asked_submit_of _ = None

abbrev pub asked_finish_of : AskedRequest → Option (EvalId × Token)
asked_finish_of (asked.Finish eval t) = Some (eval, t)
asked_finish_of _ = None

abbrev pub asked_nack_of : AskedRequest → Option (EvalId × Token)
asked_nack_of (asked.Nack eval t) = Some (eval, t)
asked_nack_of _ = None

abbrev pub asked_bodies : ℕ → Format AskedRequest
asked_bodies =
    choice 7 (variant (λ _. asked.Take) asked_take_of no_pair)
    (choice 9 (variant (λ p. asked.Submit p.0 p.1) asked_submit_of a_pair)
    (choice 11 (variant (λ p. asked.Finish p.0 p.1) asked_finish_of a_pair)
    (choice 12 (variant (λ p. asked.Nack p.0 p.1) asked_nack_of a_pair)
    (λ _. never))))

abbrev pub asked_request : Format AskedRequest
asked_request = tagged asked_number (kept is_asked_number byte) asked_bodies

-- one byte: 14 register, 15 heartbeat, 18 report
abbrev pub client_request_number : ClientRequestKind → ℕ
client_request_number client_requests.Register = 14
client_request_number client_requests.Heartbeat = 15
client_request_number client_requests.Report = 18

abbrev pub client_request_kind : Format ClientRequestKind
client_request_kind = numbered (client_requests.Register ∷ client_requests.Heartbeat ∷ client_requests.Report ∷ []) client_request_number

-- ---- the live allocations of a node

-- one byte: 0 pending, 1 running, 2 unknown
abbrev pub code_of_live_state : LiveState → ℕ
code_of_live_state live_states.Pending = 0
code_of_live_state live_states.Running = 1
code_of_live_state live_states.Unknown = 2

abbrev pub live_state : Format LiveState
live_state = enumerated 0 (live_states.Pending ∷ live_states.Running ∷ live_states.Unknown ∷ []) code_of_live_state

-- an allocation: its id, size and state; in a list its id is above the last
abbrev pub make_listed : AllocId × (Size × LiveState) → ListedAllocation
make_listed p = record { id = p.0; size = p.1.0; state = p.1.1 }

abbrev pub listed_parts : ListedAllocation → AllocId × (Size × LiveState)
listed_parts r = (r.id, (r.size, r.state))

abbrev pub listed_others : Format (Size × LiveState)
listed_others = size newest then live_state

abbrev pub listed_allocation : Format ListedAllocation
listed_allocation = keyed make_listed listed_parts allocation_id listed_others

abbrev pub listed_allocation_behind : List ListedAllocation → Format ListedAllocation
listed_allocation_behind = keyed_behind (is_behind alloc_cmp listed_id) make_listed listed_parts allocation_id listed_others

-- at most 65,536
abbrev pub listing : Format (List ListedAllocation)
listing = ruled_list 4 65536 listed_rises listed_allocation listed_allocation_behind
