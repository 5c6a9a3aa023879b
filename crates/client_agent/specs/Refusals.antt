-- Why a call is refused, and what a refusal leaves.
use Rattle.std.specs.Prelude.{◌≡◌, ℕ, ◌<◌, ◌==◌, Bool, true, false, if◌then◌else◌, is_some, Option, Some, None, Result, Ok, Err, List}
use Rattle.std.specs.Result.{result_err}
use Rattle.rows.specs.declared.actor.Actor.{Actor}
use Rattle.rows.specs.declared.allocation.AllocId.{AllocId}
use Rattle.rows.specs.declared.actor.Actor.TheVariants.{Server, Client as ClientActor}
use Rattle.rows.specs.declared.refusal.Refusal.{Refusal}
use Rattle.rows.specs.declared.refusal.Refusal.TheVariants as refusals
use Rattle.wire.specs.Messages.{Message as WireMessage}
use Rattle.wire.specs.Frames.{message_at}
use Rattle.fsm_model.specs.ClusterMachine.{cluster_spec}
use Rattle.fsm_model.specs.Words.{State}
use Rattle.group_model.specs.Agents.{Agent, Life, RegisterAt, Ping, PullFrom, End, Crash, Restart, runs, step}
use Rattle.raft_core.specs.Refusals.{is_server_of}
use Rattle.group_inputs.specs.declared.client_input.ClientInput.{ClientInput}
use Rattle.group_inputs.specs.declared.client_input.ClientInput.TheVariants as inputs
use Rattle.client_agent.specs.AgentView.{AgentView, crashed_agent}

-- ---- what is handed in

abbrev pub is_client_at : ℕ → Actor → Bool
is_client_at me (Server place) = false
is_client_at me (ClientActor client) = client == me

-- where a message is at fault that no server of the group sent: at its sender, if that is a server
-- of another group; at its receiver, if a client sent it, since a client sends only to servers
abbrev pub stranger_fault : Actor → ℕ
stranger_fault (Server place) = 2
stranger_fault (ClientActor client) = 3

-- a message must come from a server of the group of n, and be for this client
abbrev pub misdirected_to_client : ℕ → ℕ → Actor → Actor → Option Refusal
misdirected_to_client n me from to =
    if is_server_of n from
    then (if is_client_at me to then None else Some (refusals.Frame 3))
    else Some (refusals.Frame (stranger_fault from))

-- a message that was read, or the place of a frame's first fault
abbrev pub unreadable_to_client : {S C : Type 0} → ℕ → ℕ → Result (WireMessage S C) ℕ → Option Refusal
unreadable_to_client n me (Ok message) = misdirected_to_client n me message.from message.to
unreadable_to_client n me (Err place) = Some (refusals.Frame place)

abbrev pub client_frame_refusal : ℕ → ℕ → List ℕ → Option Refusal
client_frame_refusal n me bytes =
    unreadable_to_client {S = State} n me (message_at cluster_spec bytes)

-- Why a client in a group of n servers refuses what is handed in, if it does: it is down; bytes are
-- no frame, or one for another; else as the definitions say.
abbrev pub agent_refusal : ℕ → Agent → ClientInput → Option Refusal
agent_refusal n c (inputs.Frame bytes) =
    if is_some c.life then client_frame_refusal n c.node.number bytes else Some refusals.Down
agent_refusal n c (inputs.Register server) = result_err (step n c (RegisterAt server))
agent_refusal n c (inputs.Ping server) = result_err (step n c (Ping server))
agent_refusal n c (inputs.Pull server) = result_err (step n c (PullFrom server))
agent_refusal n c (inputs.End id ok) = result_err (step n c (End id ok))
agent_refusal n c inputs.Crash = result_err (step n c Crash)
agent_refusal n c inputs.Restart = result_err (step n c Restart)

-- ---- want of memory

-- an allocation runs there
abbrev pub RunsIn : Option Life → AllocId → Type 0
RunsIn None id = ⊥
RunsIn (Some l) id = runs l.running id ≡ true

-- When an input may want memory: a frame, and a message to a server of the group, while the client
-- is up; and the end of an allocation that runs. A crash takes none, nor does a restart.
abbrev pub AgentMayEndOutOfMemory : ℕ → Agent → ClientInput → Type 0
AgentMayEndOutOfMemory n c (inputs.Frame bytes) = is_some c.life ≡ true
AgentMayEndOutOfMemory n c (inputs.Register server) = (is_some c.life ≡ true) × (server < n)
AgentMayEndOutOfMemory n c (inputs.Ping server) = (is_some c.life ≡ true) × (server < n)
AgentMayEndOutOfMemory n c (inputs.Pull server) = (is_some c.life ≡ true) × (server < n)
AgentMayEndOutOfMemory n c (inputs.End id ok) = RunsIn c.life id
AgentMayEndOutOfMemory n c inputs.Crash = ⊥
AgentMayEndOutOfMemory n c inputs.Restart = ⊥

-- ---- both

-- this refusal may be answered: want of memory where some may be wanted, any other where it is the
-- one above
abbrev pub IsAgentRefused : ℕ → Agent → ClientInput → Refusal → Type 0
IsAgentRefused n c given refusals.NoMemory = AgentMayEndOutOfMemory n c given
IsAgentRefused n c given cause = agent_refusal n c given ≡ Some cause

-- want of memory is a crash, any other refusal changes nothing
abbrev pub AgentRefusalLeaves : AgentView → Refusal → AgentView → Type 0
AgentRefusalLeaves old refusals.NoMemory new = new ≡ crashed_agent old
AgentRefusalLeaves old cause new = new ≡ old
