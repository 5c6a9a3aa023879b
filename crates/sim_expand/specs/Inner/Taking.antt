-- A group, and the lines that led to it.
use Rattle.std.specs.Prelude.{◌≡◌, ◌⊎◌, ◌<◌, ◌≤◌, ◌+◌, ◌++◌, ℕ, Bool, true, false, List, length, map, string_bytes}
use Rattle.std.specs.List.{All}
use Rattle.rows.specs.declared.refusal.Refusal.{Refusal}
use Rattle.rows.specs.declared.refusal.Refusal.TheVariants.{NoMemory, OutOfRange}
use Rattle.lossy_net.specs.Words.{Keystream}
use Rattle.sim_scenario.specs.Complaints.{IsStepLine}
use Rattle.sim_play.specs.Flight.{InFlight}
use Rattle.sim_play.specs.declared.play.Play.{Play}
use Rattle.sim_expand.specs.declared.expanding.Taken.{Taken}
use Rattle.sim_expand.specs.Counts.{IsMost, IsNoFlow}
use Rattle.sim_expand.specs.Expanded.{AreDeliveries, AreTaken, MayStand}
use Rattle.sim_expand.specs.ShortSteps.{Short}
use Rattle.sim_expand.specs.Stops.{IsGoodShort}

-- a play stands as another one; behind a `settle elect` but for its messages in flight, and for the
-- words that were drawn
abbrev pub StandsBeside : (behind : Bool) → Play → Play → Type 0
StandsBeside false other play = play ≡ other
StandsBeside true other play =
    (flight : InFlight) × (fates : Keystream) × (play ≡ record other { flight = flight; fates = fates })

-- it stands where its lines led a new group, and they are few
pub record StandsAsTaken (t : Taken) : Type 0 where
  pub other : Play
  pub led : AreTaken t.settings t.nodes.now (map string_bytes t.lines.items) other
  pub beside : StandsBeside t.behind other t.play
  pub few : length t.lines.items ≤ 1_000_000

-- it took these lines behind those that it had
pub record TakesMore (old : Taken) (own : List (List ℕ)) (new : Taken) : Type 0 where
  pub settings : new.settings ≡ old.settings
  pub nodes : new.nodes.now ≡ old.nodes.now
  pub lines : map string_bytes new.lines.items ≡ map string_bytes old.lines.items ++ own
  pub stands : StandsAsTaken new

-- and is behind a `settle elect` as it was
pub record TakesThese (old : Taken) (own : List (List ℕ)) (new : Taken) : Type 0 where
  pub more : TakesMore old own new
  pub behind : new.behind ≡ old.behind

-- it took some behind them that may stand there, up to so many
abbrev pub TakesUpTo : ℕ → Taken → Taken → Type 0
TakesUpTo most old new =
    (own : List (List ℕ)) × (length own ≤ most) × All (MayStand old.behind) own × TakesThese old own new

-- it took some, up to so many, where that was of use; else none
abbrev pub TakesIf : Bool → ℕ → Taken → Taken → Type 0
TakesIf true most old new = TakesUpTo most old new
TakesIf false most old new = TakesUpTo 0 old new

-- so many lines a flow of a `settle` comes to at most
abbrev pub most_in_flow : (behind : Bool) → ℕ
most_in_flow false = 1
most_in_flow true = 500

-- it took deliveries, up to so many
abbrev pub Delivers : ℕ → Taken → Taken → Type 0
Delivers most old new =
    (own : List (List ℕ)) × (length own ≤ most)
    × AreDeliveries old.settings old.nodes.now (map string_bytes old.lines.items) own × TakesThese old own new

-- it is a step's line, and no flow's
pub record IsNoFlowLine (line : List ℕ) : Type 0 where
  pub step : IsStepLine line
  pub other : IsNoFlow line

-- ---- why nothing more is taken

-- there is no memory, or so many lines more may be too many
abbrev pub WhyNoMore : ℕ → Taken → Refusal → Type 0
WhyNoMore more t refusal = (refusal ≡ NoMemory) ⊎ ((refusal ≡ OutOfRange) × (1_000_000 < length t.lines.items + more))

-- there is no memory, or it is no step's line, or one more is too many
abbrev pub WhyNoLine : List ℕ → Taken → Refusal → Type 0
WhyNoLine line t refusal =
    (refusal ≡ NoMemory) ⊎ ((refusal ≡ OutOfRange) × ((¬ IsStepLine line) ⊎ (1_000_000 < length t.lines.items + 1)))

-- so many lines as it may come to may be too many
abbrev pub AreTooMany : Short → Taken → Type 0
AreTooMany step t = (most : ℕ) → IsMost t.behind step most → 1_000_000 < length t.lines.items + most

-- there is no memory, or its line is no step's, or it may come to too many
abbrev pub WhyNoShort : Short → Taken → Refusal → Type 0
WhyNoShort step t refusal =
    (refusal ≡ NoMemory) ⊎ ((refusal ≡ OutOfRange) × ((¬ IsGoodShort step) ⊎ AreTooMany step t))
