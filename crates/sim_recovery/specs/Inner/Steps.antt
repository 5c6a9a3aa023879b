-- The events of a way back.
use Rattle.std.specs.Prelude.{◌<◌, ◌^◌, suc}
use Rattle.group_model.specs.Inputs as inputs
use Rattle.group_model.specs.Worlds.{Event, Deliver, AtServer, AtClient}

abbrev pub IsWayInput : inputs.Input → Type 0
IsWayInput inputs.Restart = Unit {0}
IsWayInput inputs.Timeout = Unit {0}
IsWayInput inputs.Beat = Unit {0}
IsWayInput input = ⊥

-- a server restarts, stands or beats, or a message comes
abbrev pub IsWayStep : Event → Type 0
IsWayStep (Deliver place) = Unit {0}
IsWayStep (AtServer server input) = IsWayInput input
IsWayStep (AtClient client input) = ⊥

-- the same, where the message has a number
abbrev pub IsStep : Event → Type 0
IsStep (Deliver place) = suc place < 2 ^ 64
IsStep (AtServer server input) = IsWayInput input
IsStep (AtClient client input) = ⊥
