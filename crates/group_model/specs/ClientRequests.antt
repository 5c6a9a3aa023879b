-- What a server does with a client's request.
use Rattle.std.specs.Prelude.{ℕ, Bool, true, false, not, ◌&&◌, is_none, if◌then◌else◌, Option, Some, None, Result, Ok, Err, List, [], ◌∷◌, map, filter}
use Rattle.std.specs.List.{list_all}
use Rattle.rows.specs.declared.node.Node.{Node}
use Rattle.rows.specs.declared.allocation.Allocation.{Allocation}
use Rattle.rows.specs.declared.allocation.ClientState.{ClientState}
use Rattle.rows.specs.declared.allocation.ClientState.TheVariants as clients
use Rattle.rows.specs.declared.command.Report.{Report}
use Rattle.rows.specs.declared.command.Command.{Command}
use Rattle.rows.specs.declared.command.Command.TheVariants as commands
use Rattle.rows.specs.declared.refusal.Refusal.{Refusal}
use Rattle.rows.specs.declared.refusal.Refusal.TheVariants as refusals
use Rattle.rows.specs.declared.worker.ClientRequestKind.{ClientRequestKind}
use Rattle.rows.specs.declared.worker.ClientRequestKind.TheVariants as kinds
use Rattle.rows.specs.Reasons.{reason_of}
use Rattle.raft_model.specs.Rafts.{Raft, is_leader}
use Rattle.raft_model.specs.Steps.{admission_refusal}
use Rattle.fsm_model.specs.Words.{State}
use Rattle.rows.specs.NodeStatuses.{is_ready}
use Rattle.fsm_model.specs.Words.{node_of, is_some_and}
use Rattle.fsm_tables.specs.Lookups.{lives_on}
use Rattle.fsm_model.specs.Effect.{told_all}
use Rattle.fsm_model.specs.Admission.{admission}
use Rattle.fsm_model.specs.ClusterMachine.{cluster_spec}
use Rattle.rows.specs.declared.listing.LiveState.{LiveState}
use Rattle.rows.specs.declared.listing.LiveState.TheVariants as live_states
use Rattle.rows.specs.declared.listing.ListedAllocation.{ListedAllocation}
use Rattle.group_model.specs.Messages.{ServiceMessage, ToClient, ClientRequest, Register, Heartbeat, Pull, ReportStates, Listing, Told}
use Rattle.group_model.specs.Expiry.{HeartbeatCount, heartbeat_count_of, with_heartbeat}
use Rattle.group_model.specs.Desks.{Desk, applied_state, projected_state}
use Rattle.group_model.specs.Inputs.{Act, AskPropose, sends}

abbrev pub tells : ℕ → ℕ → ClientRequestKind → Option Refusal → ServiceMessage
tells me c kind None = ToClient me c (Told kind None)
tells me c kind (Some r) = ToClient me c (Told kind (Some (reason_of r)))

-- the client is told, and that is all
abbrev pub answers : ℕ → ℕ → ClientRequestKind → Option Refusal → Option Desk → Act
answers me c kind r d = sends (tells me c kind r ∷ []) d

-- ---- what would change no row

-- the same ready row stands
abbrev pub is_registered : ℕ → State → Bool
is_registered n s = is_some_and (λ (r : Node). is_ready r.status) (node_of n s)

abbrev pub same_state : ClientState → ClientState → Bool
same_state clients.Pending clients.Pending = true
same_state clients.Running clients.Running = true
same_state clients.Complete clients.Complete = true
same_state clients.Failed clients.Failed = true
same_state clients.Lost clients.Lost = true
same_state clients.Unknown clients.Unknown = true
same_state _ _ = false

abbrev pub is_unmoved : ℕ → List Report → Allocation → Bool
is_unmoved n items a = same_state (told_all n items a).client a.client

abbrev pub is_idle : State → Command → Bool
is_idle s (commands.NodePut n) = is_registered n.number s
is_idle s (commands.Report n items) = list_all (is_unmoved n items) s.allocs
is_idle s _ = false

-- ---- Register and Report: read against the state after the whole log; what is admitted and would
-- change no row is taken, and not appended; else what meets any proposal

-- the state admits the command, and no row would change
abbrev pub is_taken_already : State → Command → Bool
is_taken_already s c = is_none (admission s c) && is_idle s c

abbrev pub proposes_for : ℕ → ℕ → ClientRequestKind → Command → Option Desk → Option Refusal → Act
proposes_for me c kind command d (Some r) = answers me c kind (Some r) d
proposes_for me c kind command d None = record {
  ask = Some (AskPropose command);
  desk = d;
  sent = tells me c kind None ∷ [];
  work = [];
}

abbrev pub writes : ℕ → Raft Command → ℕ → ClientRequestKind → Command → Option Desk → Act
writes me s c kind command d =
    if not (is_leader s.mode) then answers me c kind (Some (refusals.NotLeader s.known)) d
    else if is_taken_already (projected_state s) command then answers me c kind None d
    else proposes_for me c kind command d (admission_refusal cluster_spec s command)

-- ---- a heartbeat, at an open desk

abbrev pub heartbeats_at : ℕ → ℕ → Desk → Option HeartbeatCount → Act
heartbeats_at me c o None = answers me c kinds.Heartbeat (Some refusals.UnknownNode) (Some o)
heartbeats_at me c o (Some p) = answers me c kinds.Heartbeat None (Some (record o { heartbeat_counts = with_heartbeat c o.heartbeat_counts }))

abbrev pub takes_heartbeat : ℕ → ℕ → Result Desk Refusal → Option Desk → Act
takes_heartbeat me c (Err r) d = answers me c kinds.Heartbeat (Some r) d
takes_heartbeat me c (Ok o) d = heartbeats_at me c o (heartbeat_count_of c o.heartbeat_counts)

-- ---- Pull: any server answers, from its applied state

-- what is known of a live one
abbrev pub listed_state : ClientState → LiveState
listed_state clients.Running = live_states.Running
listed_state clients.Unknown = live_states.Unknown
listed_state _ = live_states.Pending

abbrev pub shown : Allocation → ListedAllocation
shown a = record { id = a.id; size = a.size; state = listed_state a.client }

-- the live allocations of a node
abbrev pub listed : ℕ → State → List ListedAllocation
listed n s = map shown (filter (lives_on n) s.allocs)

abbrev pub pulls : ℕ → Raft Command → ℕ → Option Desk → Act
pulls me s c d = sends (ToClient me c (Listing s.commit (listed c (applied_state s))) ∷ []) d

-- each request; `open_desk` is the desk, or why it is not open
abbrev pub serves_client : ℕ → Raft Command → ℕ → Result Desk Refusal → Option Desk → ClientRequest → Act
serves_client me s c open_desk d (Register class size) = writes me s c kinds.Register (commands.NodePut (record { number = c; class = class; size = size })) d
serves_client me s c open_desk d Heartbeat = takes_heartbeat me c open_desk d
serves_client me s c open_desk d Pull = pulls me s c d
serves_client me s c open_desk d (ReportStates items) = writes me s c kinds.Report (commands.Report c items) d
