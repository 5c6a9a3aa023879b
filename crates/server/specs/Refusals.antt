-- Why a server of the group refuses what is handed in, and what a refusal leaves.
use Rattle.std.specs.Prelude.{◌≡◌, ℕ, Bool, true, false, nat_lt, ◌&&◌, is_some, if◌then◌else◌, Option, Some, None, Result, Ok, Err, List, length}
use Rattle.rows.specs.declared.actor.Actor.{Actor}
use Rattle.rows.specs.declared.actor.Actor.TheVariants.{Server as ServerActor, Client}
use Rattle.rows.specs.declared.command.Command.{Command}
use Rattle.rows.specs.declared.refusal.Refusal.{Refusal}
use Rattle.rows.specs.declared.refusal.Refusal.TheVariants as refusals
use Rattle.wire.specs.Messages.{Message as WireMessage}
use Rattle.wire.specs.Frames.{message_at}
use Rattle.raft_model.specs.Logs.{MAX}
use Rattle.raft_model.specs.Rafts.{Raft, is_up, is_leader}
use Rattle.raft_core.specs.Refusals.{is_server_at}
use Rattle.fsm_model.specs.Words.{State}
use Rattle.fsm_model.specs.ClusterMachine.{cluster_spec}
use Rattle.group_model.specs.HeartbeatCounts.{expiry_refusal}
use Rattle.group_model.specs.Desks.{Desk}
use Rattle.group_model.specs.Inputs.{Input, Arrives, Timeout, Beat, Request, TakeFrom, SubmitTo, FinishAt, NackAt, PlanTurn, Lapse, Expire, DrainTurn, FreeTurn, Reap, Compact, Crash, Restart}
use Rattle.group_model.specs.Servers.{Server, ServerTurn, step}
use Rattle.server.specs.ServerViews.{ServerView, RefinesServer, SameServer, crashed_server}
use Rattle.group_inputs.specs.Handings.{Handing, FrameBytes, OwnInput}

-- ---- bytes

-- a server of the group, or any client
abbrev pub is_of_group : ℕ → Actor → Bool
is_of_group n (ServerActor place) = nat_lt place n
is_of_group n (Client client) = true

-- a message must come from a server of the group or from a client, and be for this server
abbrev pub wrong_address : ℕ → ℕ → Actor → Actor → Option Refusal
wrong_address n me from to =
    if is_of_group n from
    then (if is_server_at me to then None else Some (refusals.Frame 3))
    else Some (refusals.Frame 2)

-- a message that was read, or the place of a frame's first fault
abbrev pub read_refusal : ℕ → ℕ → Result (WireMessage State Command) ℕ → Option Refusal
read_refusal n me (Ok read) = wrong_address n me read.from read.to
read_refusal n me (Err place) = Some (refusals.Frame place)

abbrev pub bytes_refusal : ℕ → ℕ → List ℕ → Option Refusal
bytes_refusal n me bytes = read_refusal n me (message_at cluster_spec bytes)

-- ---- what is handed in

-- the refusal of a step, if it is one
abbrev pub refusal_in : Result ServerTurn Refusal → Option Refusal
refusal_in (Ok turn) = None
refusal_in (Err refusal) = Some refusal

-- Why server `me` of n refuses what is handed in, if it does: it is down; bytes are no frame, or
-- one for another; else as the definitions say.
abbrev pub handing_refusal : ℕ → ℕ → Server → Handing → Option Refusal
handing_refusal n me s (FrameBytes bytes) =
    if is_up s.raft.mode then bytes_refusal n me bytes else Some refusals.Down
handing_refusal n me s (OwnInput input) = refusal_in (step n me s input)

-- ---- want of memory

-- A server that may stand for election: it is up, does not lead, and there is a further term and a
-- further index.
pub record CanStand (s : Server) : Type 0 where
  pub up : is_up s.raft.mode ≡ true
  pub follows : is_leader s.raft.mode ≡ false
  pub index_left : (nat_lt s.raft.term MAX && nat_lt (length s.raft.log) MAX) ≡ true

-- a leader in whose log there is room for a further entry
pub record CanAppend (s : Raft Command) : Type 0 where
  pub leads : is_leader s.mode ≡ true
  pub index_left : nat_lt (length s.log) MAX ≡ true

-- a leader at whose desk something is to be done
pub record HasOpenDesk (s : Server) : Type 0 where
  pub leads : is_leader s.raft.mode ≡ true
  pub is_open : is_some s.desk ≡ true

-- an open desk heard of the node so often, and not since
abbrev pub CountedSoOften : ℕ → ℕ → Option Desk → Type 0
CountedSoOften node beats None = ⊥
CountedSoOften node beats (Some d) = expiry_refusal node beats d.heartbeat_counts ≡ None

-- its workers ask a server of the group
pub record AsksServer (n : ℕ) (s : Server) (to : ℕ) : Type 0 where
  pub up : is_up s.raft.mode ≡ true
  pub of_group : nat_lt to n ≡ true

-- Which inputs may want memory, and when. A crash takes none, nor does what is outstanding and is
-- free again, a timeout of one that leads or cannot stand, a beat of one that does not lead, a
-- request or an expiry at a full log, or an expiry that the desk refuses.
abbrev pub OutOfMemoryMayEnd : ℕ → Server → Input → Type 0
OutOfMemoryMayEnd n s (Arrives message) = is_up s.raft.mode ≡ true
OutOfMemoryMayEnd n s Timeout = CanStand s
OutOfMemoryMayEnd n s Beat = is_leader s.raft.mode ≡ true
OutOfMemoryMayEnd n s (Request request) = CanAppend s.raft
OutOfMemoryMayEnd n s (TakeFrom to) = AsksServer n s to
OutOfMemoryMayEnd n s (SubmitTo to plan) = AsksServer n s to
OutOfMemoryMayEnd n s (FinishAt to eval token outcome) = AsksServer n s to
OutOfMemoryMayEnd n s (NackAt to eval token) = AsksServer n s to
OutOfMemoryMayEnd n s PlanTurn = HasOpenDesk s
OutOfMemoryMayEnd n s (Lapse eval) = ⊥
OutOfMemoryMayEnd n s (Expire node beats) =
    HasOpenDesk s × CountedSoOften node beats s.desk × CanAppend s.raft
OutOfMemoryMayEnd n s (DrainTurn node) = HasOpenDesk s
OutOfMemoryMayEnd n s FreeTurn = HasOpenDesk s
OutOfMemoryMayEnd n s Reap = HasOpenDesk s
OutOfMemoryMayEnd n s Compact = is_up s.raft.mode ≡ true
OutOfMemoryMayEnd n s Crash = ⊥
OutOfMemoryMayEnd n s Restart = is_up s.raft.mode ≡ false

-- bytes that are no message may want memory too
abbrev pub MayEndOutOfMemory : ℕ → Server → Handing → Type 0
MayEndOutOfMemory n s (FrameBytes bytes) = is_up s.raft.mode ≡ true
MayEndOutOfMemory n s (OwnInput input) = OutOfMemoryMayEnd n s input

-- ---- both

-- this refusal may be answered: want of memory where some may be wanted, any other where it is the
-- one above
abbrev pub IsHandingRefused : ℕ → ℕ → Server → Handing → Refusal → Type 0
IsHandingRefused n me s h refusals.NoMemory = MayEndOutOfMemory n s h
IsHandingRefused n me s h cause = handing_refusal n me s h ≡ Some cause

-- want of memory is a crash, but that a restart changes nothing
abbrev pub OutOfMemoryLeaves : ServerView → Server → Handing → ServerView → Type 0
OutOfMemoryLeaves old s (OwnInput Restart) new = new ≡ old
OutOfMemoryLeaves old s h new = RefinesServer new (crashed_server s)

-- any other refusal leaves the same server
abbrev pub HandingRefusalLeaves : ServerView → Server → Handing → Refusal → ServerView → Type 0
HandingRefusalLeaves old s h refusals.NoMemory new = OutOfMemoryLeaves old s h new
HandingRefusalLeaves old s h cause new = SameServer old new

-- The same of the value itself, whichever servers it is: any refusal but want of memory leaves the
-- same server, and want of memory in a restart changes nothing.
abbrev pub OutOfMemoryStays : ServerView → Handing → ServerView → Type 0
OutOfMemoryStays old (OwnInput Restart) new = new ≡ old
OutOfMemoryStays old h new = Unit {0}

abbrev pub HandingStays : ServerView → Handing → Refusal → ServerView → Type 0
HandingStays old h refusals.NoMemory new = OutOfMemoryStays old h new
HandingStays old h cause new = SameServer old new

-- ---- other calls

-- why there is no copy of the state
abbrev pub WhyNoSnapshot : Server → Refusal → Type 0
WhyNoSnapshot s refusals.NoMemory = is_up s.raft.mode ≡ true
WhyNoSnapshot s refusals.Down = is_up s.raft.mode ≡ false
WhyNoSnapshot s _ = ⊥
