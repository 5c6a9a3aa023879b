-- What is told of what is refused.
use Rattle.std.specs.Prelude.{◌≡◌, ◌++◌, ◌∷◌, ℕ, List, [], Option, codes, decimal}
use Rattle.std.specs.Io.KnownBytes.{Appends}
use Rattle.std.specs.List.{flat_map}
use Rattle.rows.specs.Refusals.{number_of}
use Rattle.rows.specs.declared.refusal.Refusal.{Refusal}
use Rattle.world.specs.GroupView.{GroupView}
use Rattle.sim_ending.specs.Endings.{TellsEnding}
use Rattle.sim_play.specs.Played.{Refused}

-- the line of a refusal, of the line of a step or an event
abbrev pub refusal_line : Refusal → List ℕ → List ℕ
refusal_line refusal line = codes "refused " ++ decimal (number_of refusal) ++ 32 ∷ line ++ 10 ∷ []

abbrev pub refused_line : Refused → List ℕ
refused_line refused = refusal_line refused.0 refused.1

-- the exit status of a run in which this was refused
abbrev pub status_of : List Refused → ℕ
status_of [] = 0
status_of (first ∷ others) = 1

-- the output grows by the lines of these refusals, and the status is that of their run
abbrev pub TellsRefusals : List Refused → ℕ → Option (List ℕ) → Option (List ℕ) → Type 0
TellsRefusals refused status old new =
    (status ≡ status_of refused) × Appends old new (flat_map refused_line refused)

-- the output grows by these lines, and then by the last lines of this group
abbrev pub TellsRun : List Refused → GroupView → ℕ → Option (List ℕ) → Option (List ℕ) → Type 0
TellsRun refused group status old new =
    (between : Option (List ℕ)) × TellsRefusals refused status old between × TellsEnding group between new
