-- What comes to an actor: which of it starts it again, and which is a frame.
use Rattle.std.specs.Prelude.{Bool, true, false}
use Rattle.group_model.specs.Inputs.{Restart}
use Rattle.group_inputs.specs.declared.client_input.ClientInput.{ClientInput}
use Rattle.group_inputs.specs.declared.client_input.ClientInput.TheVariants as client_inputs
use Rattle.group_inputs.specs.Handings.{Handing, FrameBytes, OwnInput}

abbrev pub restarts_server : Handing → Bool
restarts_server (OwnInput Restart) = true
restarts_server _ = false

abbrev pub restarts_client : ClientInput → Bool
restarts_client client_inputs.Restart = true
restarts_client _ = false

abbrev pub comes_as_frame : Handing → Bool
comes_as_frame (FrameBytes bytes) = true
comes_as_frame (OwnInput input) = false

abbrev pub is_client_frame : ClientInput → Bool
is_client_frame (client_inputs.Frame bytes) = true
is_client_frame _ = false
