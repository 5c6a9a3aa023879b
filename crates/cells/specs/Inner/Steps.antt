-- What one actor does with what comes.
use Rattle.std.specs.Prelude.{◌≡◌, Result, Ok, Err, [], map}
use Rattle.rows.specs.declared.refusal.Refusal.{Refusal}
use Rattle.wire.specs.Frames.{Frame}
use Rattle.server.specs.declared.server.Outbox.{Outbox}
use Rattle.actor.specs.declared.group_actor.GroupActor.{GroupActor}
use Rattle.actor.specs.declared.stepped.Stepped.{Stepped}
use Rattle.actor.specs.declared.stepped.Stepped.TheVariants.{Taken, Crashed}
use Rattle.actor.specs.Refusals.{RefusedSo}
use Rattle.actor.specs.Answers.{nothing_sent}
use Rattle.event_book.specs.declared.view.Output.{Output}
use Rattle.event_book.specs.declared.view.EventView.{EventView}
use Rattle.event_book.specs.declared.view.EventView.TheVariants.{Crash}
use Rattle.cells.specs.declared.own_input.OwnInput.{OwnInput}
use Rattle.cells.specs.Actors.{ActorTurns, SameActor}
use Rattle.cells.specs.Refusals.{ActorRefuses, ActorMayEndOutOfMemory}

abbrev pub output_of : Frame → Output
output_of f = record { to = f.to; frame = f.bytes }

-- a step, which sent this, or a crash where memory may be wanting, which sent nothing
abbrev pub Did : GroupActor → EventView OwnInput → Stepped → Outbox → GroupActor → Type 0
Did old event Taken outbox new = ActorTurns old event (map output_of outbox.frames) outbox.work new
Did old event Crashed outbox new = (outbox ≡ nothing_sent) × ActorTurns old Crash [] [] new × ActorMayEndOutOfMemory old event

-- or a refusal that leaves the same actor
abbrev pub DidOrRefused : GroupActor → EventView OwnInput → Result Stepped Refusal → Outbox → GroupActor → Type 0
DidOrRefused old event (Ok stepped) outbox new = Did old event stepped outbox new
DidOrRefused old event (Err cause) outbox new = SameActor old new × RefusedSo (Unit {0}) (ActorRefuses old event) cause

-- what comes to an actor is no crash in a step's place
abbrev pub IsAnEvent : EventView OwnInput → Type 0
IsAnEvent Crash = ⊥
IsAnEvent _ = Unit {0}
