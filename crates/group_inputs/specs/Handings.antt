-- What is handed to a server or a client of the group.
use Rattle.std.specs.Prelude.{ℕ, List}
use Rattle.group_model.specs.Inputs.{Input, Timeout, Beat, Request, TakeFrom, SubmitTo, FinishAt, NackAt, PlanTurn, Lapse, Expire, DrainTurn, FreeTurn, Reap, Compact, Crash, Restart}
use Rattle.group_inputs.specs.declared.client_input.ClientInput.{ClientInput}
use Rattle.group_inputs.specs.declared.client_input.ClientInput.TheVariants as client_inputs
use Rattle.group_inputs.specs.declared.server_input.ServerInput.{ServerInput}
use Rattle.group_inputs.specs.declared.server_input.ServerInput.TheVariants as inputs

-- all bytes of a frame, or an input of the server's own
pub data Handing : Type 0 where
  FrameBytes : (bytes : List ℕ) → Handing
  OwnInput : (input : Input) → Handing

-- what an input of a server hands to it
abbrev pub handing : ServerInput → Handing
handing (inputs.Frame bytes) = FrameBytes bytes
handing inputs.Timeout = OwnInput Timeout
handing inputs.Beat = OwnInput Beat
handing (inputs.Request request) = OwnInput (Request request)
handing (inputs.Take to) = OwnInput (TakeFrom to)
handing (inputs.Submit to plan) = OwnInput (SubmitTo to plan)
handing (inputs.Finish to eval token outcome) = OwnInput (FinishAt to eval token outcome)
handing (inputs.Nack to eval token) = OwnInput (NackAt to eval token)
handing inputs.PlanTurn = OwnInput PlanTurn
handing (inputs.Lapse eval) = OwnInput (Lapse eval)
handing (inputs.Expire node beats) = OwnInput (Expire node beats)
handing (inputs.DrainTurn node) = OwnInput (DrainTurn node)
handing inputs.FreeTurn = OwnInput FreeTurn
handing inputs.Reap = OwnInput Reap
handing inputs.Compact = OwnInput Compact
handing inputs.Crash = OwnInput Crash
handing inputs.Restart = OwnInput Restart

abbrev pub IsFrameInput : ClientInput → Type 0
IsFrameInput (client_inputs.Frame bytes) = Unit {0}
IsFrameInput _ = ⊥
