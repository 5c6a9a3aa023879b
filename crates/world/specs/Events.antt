-- The events of the program's world as those of the definitions, and the input that each of them
-- is.
use Rattle.std.specs.Prelude.{Option, Some, None, List, map, slice_get}
use Rattle.raft_model.specs.Messages.{Message}
use Rattle.raft_model.specs.Steps.{Input, Arrives, Timeout, Beat, Propose, Compact, Crash, Restart}
use Rattle.raft_model.specs.Worlds.{World, Event, Deliver, TimesOut, Beats, Proposes, Compacts, Crashes, Restarts}
use Rattle.group_inputs.specs.Events.{position_of}
use Rattle.world.specs.declared.event.RaftEvent.{RaftEvent}
use Rattle.world.specs.declared.event.RaftEvent.TheVariants as events

abbrev pub world_event : {S C : Type 0} → RaftEvent S C → Event C
world_event (events.Deliver k) = Deliver (position_of k)
world_event (events.Timeout i) = TimesOut i
world_event (events.Beat i) = Beats i
world_event (events.Propose i command) = Proposes i command.value
world_event (events.Compact i) = Compacts i
world_event (events.Crash i) = Crashes i
world_event (events.Restart i) = Restarts i

abbrev pub world_events : {S C : Type 0} → List (RaftEvent S C) → List (Event C)
world_events = map world_event

-- a message comes, if it was sent
abbrev pub arrival : {C : Type 0} → Option (Message C) → Option (Input C)
arrival None = None
arrival (Some message) = Some (Arrives message)

-- the input that an event is for the server that takes it; none where there is no such message
abbrev pub event_input : {C : Type 0} → World C → Event C → Option (Input C)
event_input w (Deliver k) = arrival (slice_get w.sent k)
event_input w (TimesOut i) = Some Timeout
event_input w (Beats i) = Some Beat
event_input w (Proposes i command) = Some (Propose command)
event_input w (Compacts i) = Some Compact
event_input w (Crashes i) = Some Crash
event_input w (Restarts i) = Some Restart
