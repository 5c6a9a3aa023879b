-- What is noted of the events and the messages of a run.
use Rattle.std.specs.Prelude.{◌≡◌, ℕ, ◌+◌, ◌-◌, Bool, true, false, not, ◌&&◌, nat_lt, is_none, IfNone, IfSome, if◌then◌else◌, Option, Some, None, List, [], ◌∷◌, ◌++◌, length, map, drop, slice_get, slice_set}
use Rattle.std.specs.Option.{unwrap_or}
use Rattle.rows.specs.declared.actor.Actor.{Actor}
use Rattle.rows.specs.declared.actor.Actor.TheVariants as actors
use Rattle.wire.specs.Frames.{Frame}
use Rattle.group_inputs.specs.declared.event.Event.{Event}
use Rattle.group_inputs.specs.declared.event.Event.TheVariants as events
use Rattle.world.specs.GroupView.{GroupView}
use Rattle.sim_draw.specs.declared.record.Record.{Record}
use Rattle.sim_draw.specs.declared.record.Step.{Step}
use Rattle.sim_draw.specs.declared.record.Sending.{Sending}
use Rattle.sim_draw.specs.Inner.Positions.{capped}
use Rattle.sim_draw.specs.Inner.Actors.{actor_in, face_in, IsNextInTrace, RefusedAs}

-- The place of the message that an event delivers, from 0; none of an input, and none of the number
-- 0.
abbrev pub delivered_place : Event → Option ℕ
delivered_place (events.Deliver number) = if nat_lt 0 number then Some (number - 1) else None
delivered_place (events.Server server input) = None
delivered_place (events.Client client input) = None

abbrev pub message_in : Step → Option ℕ
message_in step = step.message

-- a lifeline, if it is one of so many
abbrev pub column_within : ℕ → ℕ → Option ℕ
column_within column end = if nat_lt column end then Some column else None

-- the lifeline of an actor: the servers' come first, and then the clients', who are numbered from 1
abbrev pub lifeline_of : ℕ → ℕ → Option Actor → Option ℕ
lifeline_of servers clients None = None
lifeline_of servers clients (Some (actors.Server place)) = column_within place servers
lifeline_of servers clients (Some (actors.Client number)) = column_within (capped (servers + (number - 1))) (capped (servers + clients))

-- the message at a place came
abbrev pub arrived_at : List Sending → ℕ → Option Sending → List Sending
arrived_at sendings place None = sendings
arrived_at sendings place (Some sending) = slice_set sendings place (record sending { came = true })

abbrev pub arrived : Option ℕ → List Sending → List Sending
arrived None sendings = sendings
arrived (Some place) sendings = arrived_at sendings place (slice_get sendings place)

-- it had come before
abbrev pub has_come : Option Sending → Bool
has_come None = false
has_come (Some sending) = sending.came

abbrev pub had_come : Option ℕ → List Sending → Bool
had_come None sendings = false
had_come (Some place) sendings = has_come (slice_get sendings place)

-- a message comes with an event that is not refused
abbrev pub taken_message : Option ℕ → Option ℕ → List Sending → List Sending
taken_message None message sendings = arrived message sendings
taken_message (Some number) message sendings = sendings

-- it never came
abbrev pub is_lost : Sending → Bool
is_lost sending = not sending.came

-- the lifeline of who is to receive a frame
abbrev pub receiver_line : Record → Option Frame → Option ℕ
receiver_line run None = None
receiver_line run (Some frame) = lifeline_of run.servers run.clients (Some frame.to)

-- what is noted of a frame that the event in the next row sent, by the actor of a lifeline
abbrev pub as_sent : Record → ℕ → Frame → Sending
as_sent old from frame = record {
  row = length old.steps.items;
  from = from;
  to = unwrap_or (receiver_line old (Some frame)) from;
  came = false;
}

-- as many servers and clients
abbrev pub KeepsActors : Record → Record → Type 0
KeepsActors old new = (new.servers ≡ old.servers) × (new.clients ≡ old.clients)

-- The event has the next row: its column is the lifeline of the actor that it comes to, as that was
-- before it and is after it. It is noted as not refused only where it happened, and as refused only
-- as the definitions refuse it. The message that it delivers came, if it is not refused; and each of
-- the frames beyond those noted before is noted as one that this row's actor sent.
pub record TakesRow (old new : Record) (was : GroupView) (event : Event) (is : GroupView) : Type 0 where
  pub step : Step
  pub steps : new.steps.items ≡ old.steps.items ++ step ∷ []
  pub column : step.column ≡ lifeline_of old.servers old.clients (actor_in was.outbox.frames event)
  pub message : step.message ≡ delivered_place event
  pub again : step.again ≡ (is_none step.refusal && had_come step.message old.sendings.items)
  pub taken : IfNone step.refusal (IsNextInTrace was event is)
  pub refused : IfSome step.refusal (λ number. RefusedAs was event number is)
  pub before : step.before ≡ face_in was (actor_in was.outbox.frames event)
  pub after : step.after ≡ face_in is (actor_in was.outbox.frames event)
  pub sendings : new.sendings.items ≡ taken_message step.refusal step.message old.sendings.items
      ++ map (as_sent old (unwrap_or step.column 0)) (drop (length (taken_message step.refusal step.message old.sendings.items)) is.outbox.frames)
