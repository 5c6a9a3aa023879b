-- Why a call is refused, and what a refusal leaves.
use Rattle.std.specs.Prelude.{◌≡◌, ℕ, ◌==◌, Bool, true, false, nat_lt, ◌&&◌, if◌then◌else◌, Option, Some, None, Result, Ok, Err, List, length}
use Rattle.rows.specs.declared.actor.Actor.{Actor}
use Rattle.rows.specs.declared.actor.Actor.TheVariants.{Server as ServerActor, Client}
use Rattle.rows.specs.declared.refusal.Refusal.{Refusal}
use Rattle.rows.specs.declared.refusal.Refusal.TheVariants as refusals
use Rattle.machine_model.specs.MachineSpec.{MachineSpec}
use Rattle.wire.specs.Messages.{Message as WireMessage, kind_of, is_of_log}
use Rattle.wire.specs.Frames.{message_at}
use Rattle.raft_model.specs.Logs.{MAX}
use Rattle.raft_model.specs.Rafts.{Raft, RaftTurn, Mode, is_up, is_leader, crashed}
use Rattle.raft_model.specs.Steps.{Input, Arrives, Timeout, Beat, Propose, Compact, Crash, Restart, step}
use Rattle.raft_core.specs.declared.not_projected.NotProjected.{NotProjected}
use Rattle.raft_core.specs.declared.not_projected.NotProjected.TheVariants as reasons
use Rattle.raft_core.specs.RaftView.{RaftView, IsCrashOf}
use Rattle.raft_core.specs.Inputs.{Handed, Bytes, Own}
use Rattle.raft_core.specs.Steps.{RefinesRaft, IsGroupMember}

-- ---- what is handed in

-- the refusal of a step, if it is one
abbrev pub refusal_by : {C : Type 0} → Result (RaftTurn C) Refusal → Option Refusal
refusal_by (Ok turn) = None
refusal_by (Err refusal) = Some refusal

abbrev pub is_server_of : ℕ → Actor → Bool
is_server_of n (ServerActor place) = nat_lt place n
is_server_of n (Client client) = false

abbrev pub is_server_at : ℕ → Actor → Bool
is_server_at me (ServerActor place) = place == me
is_server_at me (Client client) = false

-- a message must come from a server of the group, and be for this one
abbrev pub misdirected : ℕ → ℕ → Actor → Actor → Option Refusal
misdirected n me from to =
    if is_server_of n from
    then (if is_server_at me to then None else Some (refusals.Frame 3))
    else Some (refusals.Frame 2)

-- What is wrong with a message that was read, for server `me` of n: its kind, if that is none by
-- which servers keep one log; else its sender or receiver.
abbrev pub message_fault : {S C : Type 0} → ℕ → ℕ → WireMessage S C → Option Refusal
message_fault n me read =
    if is_of_log (kind_of read.body)
    then misdirected n me read.from read.to
    else Some (refusals.Frame 1)

-- a message that was read, or the place of a frame's first fault
abbrev pub unreadable : {S C : Type 0} → ℕ → ℕ → Result (WireMessage S C) ℕ → Option Refusal
unreadable n me (Ok message) = message_fault n me message
unreadable n me (Err place) = Some (refusals.Frame place)

abbrev pub frame_refusal : {S C : Type 0} → MachineSpec S C → ℕ → ℕ → List ℕ → Option Refusal
frame_refusal {S = S} m n me bytes = unreadable {S = S} n me (message_at m bytes)

-- Why server `me` of n refuses what is handed in, if it does: it is down; bytes are no frame, or
-- none for it; else as the definitions say.
abbrev pub refusal : {S C : Type 0} → MachineSpec S C → ℕ → ℕ → Raft C → Handed C → Option Refusal
refusal m n me s (Bytes bytes) =
    if is_up s.mode then frame_refusal m n me bytes else Some refusals.Down
refusal m n me s (Own input) = refusal_by (step m n me s input)

-- Why server `me` of n refuses a message that was read, if it does: it is down; the message is of
-- another kind, is not from a server of the group, or is for another.
abbrev pub message_refusal : {S C : Type 0} → ℕ → ℕ → Raft C → WireMessage S C → Option Refusal
message_refusal n me s read =
    if is_up s.mode then message_fault n me read else Some refusals.Down

-- ---- want of memory

-- In which modes an input may want memory. A crash takes none, nor does a leader at a timeout, or
-- another at a beat or a proposal.
abbrev pub OutOfMemoryMayEnd : {C : Type 0} → Mode → Input C → Type 0
OutOfMemoryMayEnd mode (Arrives message) = is_up mode ≡ true
OutOfMemoryMayEnd mode Timeout = (is_up mode ≡ true) × (is_leader mode ≡ false)
OutOfMemoryMayEnd mode Beat = is_leader mode ≡ true
OutOfMemoryMayEnd mode (Propose command) = is_leader mode ≡ true
OutOfMemoryMayEnd mode Compact = is_up mode ≡ true
OutOfMemoryMayEnd mode Crash = ⊥
OutOfMemoryMayEnd mode Restart = is_up mode ≡ false

-- bytes that are no message may want memory too
abbrev pub MayEndOutOfMemory : {C : Type 0} → Mode → Handed C → Type 0
MayEndOutOfMemory mode (Bytes bytes) = is_up mode ≡ true
MayEndOutOfMemory mode (Own input) = OutOfMemoryMayEnd mode input

-- Why what is handed in is refused before memory is taken, if it is. A leader with room in its log
-- has to ask its machine about a proposal, and that may want memory; and bytes that come to a
-- server that is up may want some before their fault is found.
abbrev pub early_refusal : {S C : Type 0} → MachineSpec S C → ℕ → ℕ → Raft C → Handed C → Option Refusal
early_refusal m n me s (Bytes bytes) = if is_up s.mode then None else Some refusals.Down
early_refusal m n me s (Own (Propose command)) =
    if is_leader s.mode && nat_lt (length s.log) MAX
    then None
    else refusal_by (step m n me s (Propose command))
early_refusal m n me s (Own input) = refusal_by (step m n me s input)

-- want of memory never stands in for such a refusal
abbrev pub HidesNothing : {S C : Type 0} → MachineSpec S C → ℕ → ℕ → Raft C → Handed C → Refusal → Type 0
HidesNothing m n me s h refusals.NoMemory = early_refusal m n me s h ≡ None
HidesNothing m n me s h cause = Unit {0}

-- ---- both

-- this refusal may be answered: want of memory where some may be wanted, any other where it is the
-- one above
abbrev pub IsRefused : {S C : Type 0} → MachineSpec S C → ℕ → ℕ → Raft C → Handed C → Refusal → Type 0
IsRefused m n me s h refusals.NoMemory = MayEndOutOfMemory s.mode h
IsRefused m n me s h cause = refusal m n me s h ≡ Some cause

-- The same of a message that was read. Want of memory never stands in for another refusal.
abbrev pub IsMessageRefused : {S C : Type 0} → ℕ → ℕ → Raft C → WireMessage S C → Refusal → Type 0
IsMessageRefused n me s read refusals.NoMemory = message_refusal n me s read ≡ None
IsMessageRefused n me s read cause = message_refusal n me s read ≡ Some cause

-- want of memory in a step is a crash, but that a restart changes nothing
abbrev pub OutOfMemoryLeaves : {S C : Type 0} → MachineSpec S C → RaftView S C → Raft C → Handed C → RaftView S C → Type 0
OutOfMemoryLeaves m old s (Own Restart) new = new ≡ old
OutOfMemoryLeaves m old s h new = RefinesRaft m new (crashed s)

-- any other refusal of a step changes nothing
abbrev pub RefusalLeaves : {S C : Type 0} → MachineSpec S C → RaftView S C → Raft C → Handed C → Refusal → RaftView S C
    → Type 0
RefusalLeaves m old s h refusals.NoMemory new = OutOfMemoryLeaves m old s h new
RefusalLeaves m old s h cause new = new ≡ old

-- the same of a message that was read
abbrev pub MessageRefusalLeaves : {S C : Type 0} → MachineSpec S C → RaftView S C → Raft C → Refusal
    → RaftView S C → Type 0
MessageRefusalLeaves m old s refusals.NoMemory new = RefinesRaft m new (crashed s)
MessageRefusalLeaves m old s cause new = new ≡ old

-- The same of the value itself, whichever servers it is: want of memory in a step is a crash, but
-- that a restart, of one that is down, changes nothing.
abbrev pub OutOfMemoryStays : {S C : Type 0} → Handed C → RaftView S C → RaftView S C → Type 0
OutOfMemoryStays (Own Restart) old new = (is_up old.server.mode ≡ false) × (new ≡ old)
OutOfMemoryStays h old new = IsCrashOf old new

-- any other refusal of a step changes nothing
abbrev pub Stays : {S C : Type 0} → Handed C → Refusal → RaftView S C → RaftView S C → Type 0
Stays h refusals.NoMemory old new = OutOfMemoryStays h old new
Stays h cause old new = new ≡ old

-- the same of a message that was read
abbrev pub MessageStays : {S C : Type 0} → Refusal → RaftView S C → RaftView S C → Type 0
MessageStays refusals.NoMemory old new = IsCrashOf old new
MessageStays cause old new = new ≡ old

-- any refusal but want of memory shows a watcher nothing
abbrev pub RefusalShows : {W : Type 0} → Refusal → W → W → Type 0
RefusalShows refusals.NoMemory old new = Unit {0}
RefusalShows cause old new = new ≡ old

-- ---- other calls

-- why a stored part is not started
abbrev pub WhyNot : ℕ → ℕ → Refusal → Type 0
WhyNot n me refusals.NoMemory = IsGroupMember n me
WhyNot n me refusals.OutOfRange = IsGroupMember n me → ⊥
WhyNot n me _ = ⊥

-- why a server has no machine after its whole log
abbrev pub IsNotProjected : {C : Type 0} → Raft C → NotProjected → Type 0
IsNotProjected s reasons.NoMemory = is_leader s.mode ≡ true
IsNotProjected s reasons.NotLeader = (is_up s.mode ≡ true) × (is_leader s.mode ≡ false)
IsNotProjected s reasons.Down = is_up s.mode ≡ false
