-- What the program tells of a transcript that it plays again.
use Rattle.std.specs.Prelude.{◌≡◌, ◌⊎◌, ◌++◌, ◌∷◌, ℕ, List, [], Option, IfSome}
use Rattle.rows.specs.declared.refusal.Refusal.{Refusal}
use Rattle.group_model.specs.Worlds.{Event}
use Rattle.world.specs.GroupSteps.{GroupEventHappened, IsNewGroup, RefusesGroupEvent, SameView}
use Rattle.world.specs.GroupView.{GroupView}
use Rattle.event_texts.specs.EventLines.{event_line}
use Rattle.event_texts.specs.Transcripts.{IsTranscript, Recorded}
use Rattle.sim_play.specs.Played.{Refused}
use Rattle.sim_files.specs.Refusals.{TellsRun}

-- the event happens to the group, and nothing is refused; or the group refuses it, by its line
abbrev pub EventPlayed : Event → GroupView → List Refused → GroupView → Type 0
EventPlayed event old refused new =
    (GroupEventHappened old event new × (refused ≡ []))
    ⊎ ((refusal : Refusal) × RefusesGroupEvent old event refusal × SameView old new
    × (refused ≡ (refusal, event_line event) ∷ []))

-- each of these events once, and in order
abbrev pub EventsPlayed : List Event → GroupView → List Refused → GroupView → Type 0
EventsPlayed [] old refused new = (refused ≡ []) × (new ≡ old)
EventsPlayed (event ∷ events) old refused new =
    (own : List Refused) × (others : List Refused) × (between : GroupView) × (refused ≡ own ++ others)
    × EventPlayed event old own between × EventsPlayed events between others new

-- What a transcript says was played: that of the file, where its bytes are known. Each of its events
-- came to a new group of its size and nodes. Told are those that were refused, and the last lines.
pub record TellsReplay (file : Option (List ℕ)) (status : ℕ) (old new : Option (List ℕ)) : Type 0 where
  pub recorded : Recorded
  pub read : IfSome file (IsTranscript recorded)
  pub first : GroupView
  pub last : GroupView
  pub begun : IsNewGroup recorded.servers recorded.nodes first
  pub refused : List Refused
  pub played : EventsPlayed recorded.events first refused last
  pub told : TellsRun refused last status old new
