-- Why a proposal is refused, by what is shown: the state after the whole log is that from the base
-- on.
use Rattle.std.specs.Prelude.{◌≡◌, true, nat_lt, if◌then◌else◌, Option, Some, length}
use Rattle.rows.specs.declared.refusal.Refusal.{Refusal}
use Rattle.rows.specs.declared.refusal.Refusal.TheVariants as refusals
use Rattle.machine_model.specs.MachineSpec.{MachineSpec}
use Rattle.raft_model.specs.Logs.{MAX}
use Rattle.raft_model.specs.Rafts.{is_up, is_leader}
use Rattle.raft_snapshot.specs.Bases.{state_from}
use Rattle.raft_core.specs.RaftView.{RaftView}

-- of a leader: no more room, then the machine's own refusal against the whole log
abbrev pub shown_admission : {S C : Type 0} → MachineSpec S C → RaftView S C → C → Option Refusal
shown_admission m view command =
    if nat_lt (length view.server.log) MAX
    then m.admission (state_from m view.base view.server.log) command
    else Some refusals.Exhausted

abbrev pub shown_refusal : {S C : Type 0} → MachineSpec S C → RaftView S C → C → Option Refusal
shown_refusal m view command =
    if is_up view.server.mode
    then (if is_leader view.server.mode then shown_admission m view command else Some (refusals.NotLeader view.server.known))
    else Some refusals.Down

-- this refusal may be answered: want of memory by a leader whose log has room
abbrev pub IsShownRefused : {S C : Type 0} → MachineSpec S C → RaftView S C → C → Refusal → Type 0
IsShownRefused m view command refusals.NoMemory =
    (is_leader view.server.mode ≡ true) × (nat_lt (length view.server.log) MAX ≡ true)
IsShownRefused m view command cause = shown_refusal m view command ≡ Some cause
