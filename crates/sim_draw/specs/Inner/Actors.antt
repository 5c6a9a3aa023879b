-- Who an event comes to, what is drawn of an actor, and what became of an event.
use Rattle.std.specs.Prelude.{◌≡◌, ℕ, true, false, is_some, Option, Some, None, List, [], ◌∷◌, ◌++◌, slice_get}
use Rattle.rows.specs.declared.actor.Actor.{Actor}
use Rattle.rows.specs.declared.actor.Actor.TheVariants as actors
use Rattle.rows.specs.declared.refusal.Refusal.{Refusal}
use Rattle.rows.specs.Refusals.{number_of}
use Rattle.wire.specs.Frames.{Frame}
use Rattle.raft_core.specs.declared.role.Role.{Role}
use Rattle.raft_core.specs.declared.role.Role.TheVariants.{Follower, Candidate, Leader}
use Rattle.raft_core.specs.Steps.{role_of}
use Rattle.client_agent.specs.AgentView.{AgentView}
use Rattle.server.specs.ServerViews.{ServerView}
use Rattle.group_inputs.specs.declared.event.Event.{Event}
use Rattle.group_inputs.specs.declared.event.Event.TheVariants as events
use Rattle.group_inputs.specs.Events.{position_of, group_event}
use Rattle.world.specs.GroupView.{GroupView, client_view}
use Rattle.world.specs.GroupSteps.{SameView, RefusesGroupEvent}
use Rattle.sim_draw.specs.declared.record.Face.{Face}

-- who is to receive a frame
abbrev pub receiver_in : Option Frame → Option Actor
receiver_in None = None
receiver_in (Some frame) = Some frame.to

-- who an event comes to: a message to its receiver, an input to its own actor
abbrev pub actor_in : List Frame → Event → Option Actor
actor_in frames (events.Deliver number) = receiver_in (slice_get frames (position_of number))
actor_in frames (events.Server server input) = Some (actors.Server server)
actor_in frames (events.Client client input) = Some (actors.Client client)

-- what is drawn where there is no actor
abbrev pub no_face : Face
no_face = record { up = false; leads = false; term = 0; applied = 0 }

-- A server is drawn with its term, also while it is down, and with what it has applied while it is
-- up.
abbrev pub face_as : Option Role → ℕ → ℕ → Face
face_as None term applied = record { up = false; leads = false; term = term; applied = 0 }
face_as (Some Follower) term applied = record { up = true; leads = false; term = term; applied = applied }
face_as (Some Candidate) term applied = record { up = true; leads = false; term = term; applied = applied }
face_as (Some Leader) term applied = record { up = true; leads = true; term = term; applied = applied }

abbrev pub server_face : ServerView → Face
server_face s = face_as (role_of s.raft.server.mode) s.raft.server.term s.raft.server.commit

abbrev pub client_face : AgentView → Face
client_face a = record { up = is_some a.client.life; leads = false; term = 0; applied = 0 }

abbrev pub server_drawn : Option ServerView → Face
server_drawn None = no_face
server_drawn (Some s) = server_face s

abbrev pub client_drawn : Option AgentView → Face
client_drawn None = no_face
client_drawn (Some a) = client_face a

-- an actor of a group
abbrev pub face_in : GroupView → Option Actor → Face
face_in group None = no_face
face_in group (Some (actors.Server place)) = server_drawn (slice_get group.servers place)
face_in group (Some (actors.Client number)) = client_drawn (client_view group.clients number)

-- the group, once what came for workers was fetched
abbrev pub fetched : GroupView → GroupView
fetched group = record group { outbox = record group.outbox { work = [] } }

-- the event stands behind those that had happened
abbrev pub IsNextInTrace : GroupView → Event → GroupView → Type 0
IsNextInTrace old event new = new.trace ≡ old.trace ++ group_event event ∷ []

-- The definitions refuse the event with a refusal of this number, and nothing happened.
pub record RefusedAs (old : GroupView) (event : Event) (number : ℕ) (new : GroupView) : Type 0 where
  pub refusal : Refusal
  pub number_is : number_of refusal ≡ number
  pub cause : RefusesGroupEvent old (group_event event) refusal
  pub same : SameView (fetched old) new
