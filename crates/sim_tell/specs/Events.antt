-- What is told of an event: who took what, what that changed, and what was sent.
use Rattle.std.specs.Prelude.{◌≡◌, ◌-◌, ◌+◌, ℕ, nat_eq, if◌then◌else◌, Option, Some, None, Result, Ok, Err, List, [], ◌∷◌, ◌++◌, option_map, slice_get, length, decimal, codes}
use Rattle.rows.specs.declared.actor.Actor.{Actor}
use Rattle.rows.specs.declared.actor.Actor.TheVariants as actors
use Rattle.rows.specs.declared.node.NodeSpec.{NodeSpec}
use Rattle.fsm_model.specs.ClusterMachine.{cluster_spec}
use Rattle.wire.specs.Frames.{Frame, message_at}
use Rattle.wire.specs.Messages.{Message}
use Rattle.group_inputs.specs.declared.event.Event.{Event}
use Rattle.group_inputs.specs.declared.event.Event.TheVariants as events
use Rattle.group_inputs.specs.Events.{group_event}
use Rattle.server.specs.ServerViews.{ServerView}
use Rattle.world.specs.GroupSteps.{IsNewGroup}
use Rattle.world.specs.GroupView.{GroupView}
use Rattle.sim_labels.specs.Labels.{event_label, frame_label}
use Rattle.sim_labels.specs.Words.{actor_text}
use Rattle.sim_playback.specs.Taking.{Took}
use Rattle.sim_tell.specs.Marks.{Mark, TellsNewest, first_mark}
use Rattle.sim_tell.specs.Sent.{sent_text}
use Rattle.sim_tell.specs.Standings.{standing_in}
use Rattle.sim_tell.specs.StandingWords.{change_words}

-- ---- who

-- the message of a number, from 1, of those that were sent
abbrev pub frame_of : List Frame → ℕ → Option Frame
frame_of sent number = if nat_eq number 0 then None else slice_get sent (number - 1)

-- who takes an event: of a delivery the receiver, if the message was sent
abbrev pub actor_of : List Frame → Event → Option Actor
actor_of sent (events.Deliver number) = option_map (λ frame. frame.to) (frame_of sent number)
actor_of sent (events.Server server input) = Some (actors.Server server)
actor_of sent (events.Client client input) = Some (actors.Client client)

abbrev pub who_text : Option Actor → List ℕ
who_text None = codes "-"
who_text (Some actor) = actor_text actor

-- an actor, if it is a server that is there
abbrev pub server_of : GroupView → Option Actor → Option ServerView
server_of group None = None
server_of group (Some (actors.Server server)) = slice_get group.servers server
server_of group (Some (actors.Client client)) = None

-- ---- what

abbrev pub sender_in : {S C : Type 0} → Result (Message S C) ℕ → List ℕ
sender_in (Ok message) = actor_text message.from
sender_in (Err place) = codes "-"

-- who sent a frame
abbrev pub sender_text : List ℕ → List ℕ
sender_text bytes = sender_in (message_at cluster_spec bytes)

abbrev pub delivered_text : ℕ → Option Frame → List ℕ
delivered_text number None = codes "#" ++ decimal number
delivered_text number (Some frame) =
    codes "#" ++ (decimal number ++ (codes " " ++ (frame_label frame.bytes ++ (codes " from " ++ sender_text frame.bytes))))

-- a message, with its number and its sender, or an input of the actor's own
abbrev pub took_text : List Frame → Event → List ℕ
took_text sent (events.Deliver number) = delivered_text number (frame_of sent number)
took_text sent (events.Server server input) = event_label (events.Server server input)
took_text sent (events.Client client input) = event_label (events.Client client input)

-- or that it was refused, and why
abbrev pub answered_text : Option ℕ → List ℕ → List ℕ
answered_text None took = took
answered_text (Some number) took = codes "refused " ++ (decimal number ++ (codes " " ++ took))

-- ---- its row

-- The group takes or refuses the event of this number, and becomes `new`; the cells of its row say
-- the number, who, what, what that changed of the actor and in the newest state, and what was sent.
pub record TellsEvent (old : GroupView) (mark : Mark) (number : ℕ) (event : Event) (new : GroupView) (later : Mark) (row : List (List ℕ)) : Type 0 where
  pub answer : Option ℕ
  pub took : Took old (group_event event) answer new
  pub changed : List ℕ
  pub change : let actor = actor_of old.outbox.frames event in
      TellsNewest mark (server_of new actor) (change_words (standing_in old actor) (standing_in new actor)) later changed
  pub cells : let sent = old.outbox.frames in
      row ≡ decimal number ∷ who_text (actor_of sent event) ∷ answered_text answer (took_text sent event)
      ∷ changed ∷ sent_text (length sent) new.outbox.frames ∷ []

-- so each of these events, one after the other, behind so many
abbrev pub TellsRun : GroupView → Mark → ℕ → List Event → List (List (List ℕ)) → Type 0
TellsRun old mark number [] rows = rows ≡ []
TellsRun old mark number (event ∷ events) rows =
    (new : GroupView) × (later : Mark) × (row : List (List ℕ)) × (rest : List (List (List ℕ)))
    × TellsEvent old mark (number + 1) event new later row × (rows ≡ row ∷ rest)
    × TellsRun new later (number + 1) events rest

-- of a group from its beginning on
abbrev pub AreRowsTold : ℕ → List NodeSpec → List Event → List (List (List ℕ)) → Type 0
AreRowsTold servers nodes events rows =
    (group : GroupView) × IsNewGroup servers nodes group × TellsRun group first_mark 0 events rows
