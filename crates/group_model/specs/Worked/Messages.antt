-- What came is no input of its own: refused, and at an actor that is down for that.
use Rattle.std.specs.Prelude.{◌≡◌, ℕ, Option, Some, None, Result, Ok, Err, List, [], ◌∷◌}
use Rattle.rows.specs.declared.refusal.Refusal.{Refusal}
use Rattle.rows.specs.declared.refusal.Refusal.TheVariants as refusals
use Rattle.fsm_model.specs.Worked.Words.{linux, size}
use Rattle.group_model.specs.Inputs as inputs
use Rattle.group_model.specs.Agents as agents
use Rattle.group_model.specs.Messages.{ToServer, Heartbeat, Listing}
use Rattle.group_model.specs.Worlds as worlds
use Rattle.group_model.specs.Worlds.{World, Event, AtServer, AtClient}
use Rattle.group_model.specs.Worked.Words.{after_events}

abbrev pub refused_by : Result World Refusal → Option Refusal
refused_by (Ok w) = None
refused_by (Err r) = Some r

-- a heartbeat of node 1 as an own input of server i, after these events
abbrev pub heartbeat_at : List Event → ℕ → Option Refusal
heartbeat_at events i = refused_by (worlds.happens (after_events (worlds.first 3 []) events) (AtServer i (inputs.Arrives (ToServer 1 i Heartbeat))))

abbrev pub AtOneUp : Type 0
AtOneUp = heartbeat_at [] 0 ≡ Some refusals.OutOfRange

abbrev pub AtOneDown : Type 0
AtOneDown = heartbeat_at (AtServer 0 inputs.Crash ∷ []) 0 ≡ Some refusals.Down

abbrev pub AtNone : Type 0
AtNone = heartbeat_at [] 3 ≡ Some refusals.OutOfRange

-- a list as an own input of client 1 of one node, after these events
abbrev pub list_at : List Event → Option Refusal
list_at events = refused_by (worlds.happens (after_events (worlds.first 3 (record { number = 1; class = linux; size = size 1000 1000 } ∷ [])) events) (AtClient 1 (agents.Arrives 0 (Listing 0 []))))

abbrev pub AtClientUp : Type 0
AtClientUp = list_at [] ≡ Some refusals.OutOfRange

abbrev pub AtClientDown : Type 0
AtClientDown = list_at (AtClient 1 agents.Crash ∷ []) ≡ Some refusals.Down
