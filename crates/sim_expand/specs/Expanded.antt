-- Which steps a scenario in short form takes.
use Rattle.std.specs.Prelude.{◌≡◌, ◌⊎◌, ◌<◌, ◌≤◌, ◌++◌, ◌*◌, ℕ, Bool, true, false, List, [], ◌∷◌, length, take, unwrap_or}
use Rattle.std.specs.List.{All}
use Rattle.group_model.specs.Worlds.{Deliver}
use Rattle.rows.specs.declared.node.NodeSpec.{NodeSpec}
use Rattle.sim_scenario.specs.declared.scenario.Settings.{Settings}
use Rattle.sim_play.specs.declared.play.Play.{Play}
use Rattle.sim_play.specs.Played.{LinesPlayed, Refused}
use Rattle.sim_play.specs.PlaySteps.{StepRefused, StepTaken}
use Rattle.sim_play.specs.Plays.{IsNewPlay}
use Rattle.sim_recovery.specs.Recoveries.{IsElection}
use Rattle.sim_scenario.specs.Steps.{AnEvent, IsLine}
use Rattle.sim_expand.specs.Counts.{IsFlow, IsNoFlow, most_at_once, most_elected}
use Rattle.sim_expand.specs.ShortSteps.{Short, AsItStands, Settles, Elects, has_elect}

-- a new group of these settings and nodes took these lines, in order, and stands so then; none of
-- its actors lacked memory
pub record AreTaken (settings : Settings) (nodes : List NodeSpec) (lines : List (List ℕ)) (play : Play) : Type 0 where
  pub first : Play
  pub new : IsNewPlay settings nodes first
  pub refused : List Refused
  pub played : LinesPlayed StepTaken StepRefused lines first refused play
  pub found : play.lacked ≡ false

-- the first lines of those by which the group settles that stands so after the lines before: its
-- servers that are up come to follow one of them; all, where they are few enough
pub record AreElecting (settings : Settings) (nodes : List NodeSpec) (before own : List (List ℕ)) : Type 0 where
  pub play : Play
  pub stands : AreTaken settings nodes before play
  pub lines : List (List ℕ)
  pub election : let world = play.world in IsElection settings.servers nodes world.trace lines
  pub first : own ≡ take most_elected lines

-- ---- behind a `settle elect`

-- the line by which a message comes that was sent by the lines before
pub record IsDelivery (settings : Settings) (nodes : List NodeSpec) (before : List (List ℕ)) (line : List ℕ) : Type 0 where
  pub play : Play
  pub stands : AreTaken settings nodes before play
  pub place : ℕ
  pub sent : let world = play.world in place < length world.outbox.frames
  pub comes : IsLine (AnEvent (Deliver place)) line

-- each of these lines is one
abbrev pub AreDeliveries : Settings → List NodeSpec → (before : List (List ℕ)) → List (List ℕ) → Type 0
AreDeliveries settings nodes before [] = Unit {0}
AreDeliveries settings nodes before (line ∷ lines) =
    IsDelivery settings nodes before line × AreDeliveries settings nodes (before ++ line ∷ []) lines

-- of the line of a flow deliveries, no more than it takes messages; of any other line itself
abbrev pub BehindElect : Settings → List NodeSpec → (before : List (List ℕ)) → List ℕ → List (List ℕ) → Type 0
BehindElect settings nodes before line own =
    ((most : ℕ) × IsFlow line most × (length own ≤ most) × AreDeliveries settings nodes before own)
    ⊎ (IsNoFlow line × (own ≡ line ∷ []))

-- a line that may stand there: no flow's
abbrev pub MayStand : (behind : Bool) → List ℕ → Type 0
MayStand false line = Unit {0}
MayStand true line = IsNoFlow line

-- ---- the lines of a step

-- the line of a step that is taken as it stands, and no other, or what stands for that behind a
-- `settle elect`; of a `settle` any lines that may stand there, but not more than it comes to at
-- most; and of a `settle elect` those by which the group settles then
abbrev pub LinesAt : Settings → List NodeSpec → (behind : Bool) → (before : List (List ℕ)) → Short → List (List ℕ) → Type 0
LinesAt settings nodes false before (AsItStands line) own = own ≡ line ∷ []
LinesAt settings nodes true before (AsItStands line) own = BehindElect settings nodes before line own
LinesAt settings nodes behind before (Settles count) own =
    (length own ≤ unwrap_or count 1000 * most_at_once behind) × All (MayStand behind) own
LinesAt settings nodes behind before Elects own = AreElecting settings nodes before own

-- behind these steps, and the lines before
abbrev pub LinesOf : Settings → List NodeSpec → (passed : List Short) → (before : List (List ℕ)) → Short → List (List ℕ) → Type 0
LinesOf settings nodes passed before step own = LinesAt settings nodes (has_elect passed) before step own
