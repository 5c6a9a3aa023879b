-- A step that is broken off, before what it left is put away.
use Rattle.std.specs.Prelude.{◌≡◌, ℕ, List, Some, None, false}
use Rattle.rows.specs.declared.refusal.Refusal.{Refusal}
use Rattle.rows.specs.declared.refusal.Refusal.TheVariants as refusals
use Rattle.machine_model.specs.MachineSpec.{MachineSpec}
use Rattle.wire.specs.Messages.{Message as WireMessage}
use Rattle.wire.specs.Frames.{Frame}
use Rattle.raft_model.specs.Rafts.{is_up}
use Rattle.raft_model.specs.Steps.{Restart}
use Rattle.raft_core.specs.RaftView.{RaftView}
use Rattle.raft_core.specs.Inputs.{Handed, Own}
use Rattle.raft_core.specs.Refusals.{refusal, frame_refusal, message_fault, MayEndOutOfMemory}
use Rattle.raft_core.specs.Inner.Turns.{OutOfMemoryTurn}

-- nothing changed, and nothing was sent
pub record Unchanged {S C : Type 0} (old new : RaftView S C) (before after : List Frame) : Type 0 where
  pub same : new ≡ old
  pub nothing : after ≡ before

-- memory was wanting; a restart that lacks it changes nothing
abbrev pub LosesIn : {S C : Type 0} → RaftView S C → Handed C → RaftView S C → List Frame → List Frame → Type 0
LosesIn old (Own Restart) new before after = (is_up old.server.mode ≡ false) × Unchanged old new before after
LosesIn old h new before after = MayEndOutOfMemory old.server.mode h × OutOfMemoryTurn old new before after

abbrev pub EndsRefused : {S C : Type 0} → MachineSpec S C → RaftView S C → Handed C → Refusal → RaftView S C
    → List Frame → List Frame → Type 0
EndsRefused m old h refusals.NoMemory new before after = LosesIn old h new before after
EndsRefused m old h cause new before after =
    (refusal m old.size old.me old.server h ≡ Some cause) × Unchanged old new before after

-- the same of bytes that come to a server that is up
abbrev pub FrameStops : {S C : Type 0} → MachineSpec S C → RaftView S C → List ℕ → Refusal → RaftView S C
    → List Frame → List Frame → Type 0
FrameStops m old bytes refusals.NoMemory new before after = OutOfMemoryTurn old new before after
FrameStops m old bytes cause new before after =
    (frame_refusal m old.size old.me bytes ≡ Some cause) × Unchanged old new before after

-- the same of a message that was read; memory is wanting only of one that nothing is wrong with
abbrev pub MessageStops : {S C : Type 0} → RaftView S C → WireMessage S C → Refusal → RaftView S C
    → List Frame → List Frame → Type 0
MessageStops old read refusals.NoMemory new before after =
    (message_fault old.size old.me read ≡ None) × OutOfMemoryTurn old new before after
MessageStops old read cause new before after =
    (message_fault old.size old.me read ≡ Some cause) × Unchanged old new before after
