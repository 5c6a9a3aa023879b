-- What a group has shown so far, moment by moment.
use Rattle.std.specs.Prelude.{◌≡◌, ℕ, suc, ◌⊎◌, Result, Ok, Err, Option, Some, None, List, [], ◌∷◌, ◌++◌, length, map, slice_get}
use Rattle.std.specs.List.{AllZip}
use Rattle.rows.specs.declared.allocation.AllocId.{AllocId}
use Rattle.rows.specs.declared.refusal.Refusal.{Refusal}
use Rattle.wire.specs.Frames.{Frame}
use Rattle.fsm_model.specs.Words.{State}
use Rattle.fsm_model.specs.ClusterMachine.{cluster_spec}
use Rattle.group_model.specs.Messages.{GroupMessage}
use Rattle.group_model.specs.Worlds.{World}
use Rattle.group_safety.specs.Deliveries.{deliveries}
use Rattle.group_safety.specs.Limits.{LimitedRun}
use Rattle.group_frames.specs.GroupFrames.{CarriesGroup}
use Rattle.client_agent.specs.AgentView.{AgentView}
use Rattle.spec.specs.Spec.{SpecState}
use Rattle.spec.specs.Visible.{Visible, Behavior}
use Rattle.spec.specs.Refinement.{visible_in}
use Rattle.world.specs.declared.done.Done.{Done}
use Rattle.world.specs.declared.done.Done.TheVariants.{Taken, Crashed}
use Rattle.world.specs.GroupView.{GroupView, nodes_of}

-- Sealed: what this says need not be read, since any predicate would serve of which the clauses hold
-- that name it. `new` begins it with one moment; `step` adds the moment that it makes; `state`,
-- `clients` and `sent` answer what is shown last; and by `shows_the_spec` all that is shown is what
-- the specification shows. (It says: these are the moments of the run that led here.)
pub record HasShown (view : GroupView) (shown : List Visible) : Type 0 where
  pub past : List World
  pub world : World
  pub run : LimitedRun (length view.servers) (nodes_of view) view.trace past world
  pub is : shown ≡ map visible_in (past ++ world ∷ [])

-- it has shown something so far: the moment before its first event, and one after each of its trace
abbrev pub ShownSoFar : GroupView → Type 0
ShownSoFar view =
    (shown : List Visible) × HasShown view shown × (length shown ≡ suc (length view.trace))

-- After a step that was taken one moment more is shown. Where an actor found no memory, it is that
-- of its crash, or, in a restart, none. And a refusal shows nothing.
abbrev pub ShownAfter : Result Done Refusal → GroupView → List Visible → Type 0
ShownAfter (Ok Taken) view shown = (now : Visible) × HasShown view (shown ++ now ∷ [])
ShownAfter (Ok Crashed) view shown = HasShown view shown ⊎ ((now : Visible) × HasShown view (shown ++ now ∷ []))
ShownAfter (Err refusal) view shown = HasShown view shown

-- P holds of what is shown last
abbrev pub OfTheLast : GroupView → (Visible → Type 0) → Type 0
OfTheLast view P = (shown : List Visible) (now : Visible) → HasShown view (shown ++ now ∷ []) → P now

-- the state of server i; none where there is no such server, or it is down
abbrev pub state_at : Option (Option State) → Option State
state_at None = None
state_at (Some state) = state

abbrev pub seen_state : Visible → ℕ → Option State
seen_state now i = state_at (slice_get now.states i)

abbrev pub started_in : AgentView → List AllocId
started_in a = a.client.started

-- frames carry messages, one for one, that deliver this
pub record CarryDeliveries (frames : List Frame) (now : Visible) : Type 0 where
  pub messages : List GroupMessage
  pub carried : AllZip (CarriesGroup cluster_spec) frames messages
  pub delivered : now.delivered ≡ deliveries messages

-- whatever the group has shown, moment by moment, is what the specification shows
abbrev pub ShownBySpec : GroupView → Type 0
ShownBySpec view =
    (shown : List Visible) → HasShown view shown →
    (last : SpecState) × Behavior (length view.servers) (length view.clients) shown last
