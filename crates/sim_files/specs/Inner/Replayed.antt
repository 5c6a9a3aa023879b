-- What becomes of the events of a transcript, in order.
use Rattle.std.specs.Prelude.{ℕ, List, Option}
use Rattle.group_model.specs.Worlds.{Event}
use Rattle.world.specs.GroupView.{GroupView}
use Rattle.sim_play.specs.Played.{Refused}
use Rattle.sim_files.specs.Refusals.{TellsRefusals}
use Rattle.sim_files.specs.Replays.{EventsPlayed}

-- they came to the group, and the output grows by the lines of what is refused
abbrev pub TellsEvents : List Event → GroupView → GroupView → ℕ → Option (List ℕ) → Option (List ℕ) → Type 0
TellsEvents events first last status old new =
    (refused : List Refused) × EventsPlayed events first refused last × TellsRefusals refused status old new
