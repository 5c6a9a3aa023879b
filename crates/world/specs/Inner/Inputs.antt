-- Who takes an event, and what it is handed.
use Rattle.std.specs.Prelude.{◌≡◌, ℕ, ◌<◌, if◌then◌else◌, Bool, true, false, Some, Err, List, length, slice_get}
use Rattle.std.specs.List.{AllZip}
use Rattle.rows.specs.declared.refusal.Refusal.{Refusal}
use Rattle.rows.specs.declared.refusal.Refusal.TheVariants as refusals
use Rattle.machine_model.specs.MachineSpec.{MachineSpec}
use Rattle.wire.specs.Frames.{Frame}
use Rattle.raft_model.specs.Rafts.{Raft, is_up}
use Rattle.raft_model.specs.Steps.{Timeout, Beat, Propose, Compact, Crash, Restart}
use Rattle.raft_model.specs.Worlds.{World, Event, Deliver, TimesOut, Beats, Proposes, Compacts, Crashes, Restarts, happens, acting_server}
use Rattle.raft_core.specs.Frames.{FrameCarries}
use Rattle.raft_core.specs.RaftView.{RaftView}
use Rattle.raft_core.specs.Inputs.{Handed, Bytes, Own}
use Rattle.raft_core.specs.Refusals.{OutOfMemoryLeaves, OutOfMemoryStays}
use Rattle.server.specs.SentBytes.{bytes_of}
use Rattle.world.specs.Steps.{LeftServer}

abbrev pub is_restart : {C : Type 0} → Event C → Bool
is_restart (Deliver k) = false
is_restart (TimesOut i) = false
is_restart (Beats i) = false
is_restart (Proposes i command) = false
is_restart (Compacts i) = false
is_restart (Crashes i) = false
is_restart (Restarts i) = true

-- server i takes the event
abbrev pub ActsIn : {S C : Type 0} → MachineSpec S C → List Frame → Event C → ℕ → Type 0
ActsIn {C = C} m sent e i = (w : World C) → AllZip (FrameCarries m) sent w.sent → acting_server m w e ≡ Some i

-- nobody takes it
abbrev pub NobodyActsIn : {S C : Type 0} → MachineSpec S C → List Frame → Event C → Refusal → Type 0
NobodyActsIn {C = C} m sent e r = (w : World C) → AllZip (FrameCarries m) sent w.sent → happens m w e ≡ Err r

-- what it delivers was sent
abbrev pub IsSent : {C : Type 0} → List Frame → Event C → Type 0
IsSent sent (Deliver k) = k < length sent
IsSent sent _ = Unit {0}

-- the bytes are those of the frame that the event delivers, if it delivers one
abbrev pub HasFrame : {C : Type 0} → List Frame → Event C → List ℕ → Type 0
HasFrame sent (Deliver k) bytes = bytes ≡ bytes_of (slice_get sent k)
HasFrame sent _ bytes = Unit {0}

-- what is handed to the server that takes the event
abbrev pub handed_by : {C : Type 0} → List Frame → Event C → Handed C
handed_by sent (Deliver k) = Bytes (bytes_of (slice_get sent k))
handed_by sent (TimesOut i) = Own Timeout
handed_by sent (Beats i) = Own Beat
handed_by sent (Proposes i command) = Own (Propose command)
handed_by sent (Compacts i) = Own Compact
handed_by sent (Crashes i) = Own Crash
handed_by sent (Restarts i) = Own Restart

-- what a refusal leaves of a server: what a crash does where memory was wanting, else the same
-- server
abbrev pub Leaves : {S C : Type 0} → MachineSpec S C → RaftView S C → Raft C → Handed C → Refusal → RaftView S C
    → Type 0
Leaves m old s h refusals.NoMemory new = OutOfMemoryLeaves m old s h new
Leaves m old s h cause new = LeftServer old new

-- and of the value itself, whichever servers it is
abbrev pub StaysOrLeft : {S C : Type 0} → Handed C → Refusal → RaftView S C → RaftView S C → Type 0
StaysOrLeft h refusals.NoMemory old new = OutOfMemoryStays h old new
StaysOrLeft h cause old new = LeftServer old new

-- what a server has committed, while it is up
abbrev pub committed : {C : Type 0} → Raft C → ℕ
committed s = if is_up s.mode then s.commit else 0
