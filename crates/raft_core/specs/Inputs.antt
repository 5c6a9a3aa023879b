-- What is handed to a server.
use Rattle.std.specs.Prelude.{◌≡◌, ℕ, List}
use Rattle.machine_model.specs.MachineSpec.{MachineSpec}
use Rattle.raft_model.specs.Messages.{Message}
use Rattle.raft_model.specs.Steps.{Input, Arrives, Timeout, Beat, Compact, Crash, Restart}
use Rattle.raft_core.specs.declared.input.Input.{Input as CodeInput}
use Rattle.raft_core.specs.declared.input.Input.TheVariants as inputs
use Rattle.raft_core.specs.Frames.{IsFrameOf}

-- all bytes of a frame, or an input of the server's own
pub data Handed (C : Type 0) : Type 0 where
  Bytes : (bytes : List ℕ) → Handed C
  Own : (input : Input C) → Handed C

-- the argument of `step`
abbrev pub handed : {C : Type 0} → CodeInput → Handed C
handed (inputs.Frame bytes) = Bytes bytes.now
handed inputs.Timeout = Own Timeout
handed inputs.Beat = Own Beat
handed inputs.Compact = Own Compact
handed inputs.Crash = Own Crash
handed inputs.Restart = Own Restart

-- an input of the definitions that it is: bytes are the arrival of each message whose frame they
-- are
abbrev pub Reads : {S C : Type 0} → MachineSpec S C → Handed C → Input C → Type 0
Reads {C = C} m (Bytes bytes) input =
    (message : Message C) × IsFrameOf m bytes message × (input ≡ Arrives message)
Reads m (Own own) input = input ≡ own
