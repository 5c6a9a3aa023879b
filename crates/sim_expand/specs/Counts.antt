-- How many lines the steps of a scenario in short form come to.
use Rattle.std.specs.Prelude.{◌≡◌, ◌⊎◌, ◌+◌, ◌*◌, ◌||◌, ℕ, Bool, true, false, List, [], ◌∷◌, Option, unwrap_or}
use Rattle.sim_scenario.specs.Steps.{Flow, IsLine}
use Rattle.sim_expand.specs.ShortSteps.{Short, AsItStands, Settles, Elects, is_elect}

-- the line of a flow of at most so many messages: 10,000 where it does not say how many
abbrev pub IsFlow : List ℕ → ℕ → Type 0
IsFlow line most = (count : Option ℕ) × IsLine (Flow count) line × (most ≡ unwrap_or count 10000)

abbrev pub IsNoFlow : List ℕ → Type 0
IsNoFlow line = (count : Option ℕ) → ¬ IsLine (Flow count) line

-- so many lines a `settle` takes at most each time that it does something: that by which a client
-- asks for its list, of 64 clients, and a flow; behind a `settle elect` 500 deliveries in its place
abbrev pub most_at_once : (behind : Bool) → ℕ
most_at_once false = 65
most_at_once true = 564

-- so many lines a `settle elect` takes at most
abbrev pub most_elected : ℕ
most_elected = 10_000

-- So many lines a step comes to at most, behind a `settle elect` or where none stands before it. A
-- flow behind one comes to a line for each message, and a `settle` without a number does something
-- 1,000 times.
abbrev pub IsMost : (behind : Bool) → Short → ℕ → Type 0
IsMost false (AsItStands line) most = most ≡ 1
IsMost true (AsItStands line) most = IsFlow line most ⊎ (IsNoFlow line × (most ≡ 1))
IsMost behind (Settles count) most = most ≡ unwrap_or count 1000 * most_at_once behind
IsMost behind Elects most = most ≡ most_elected

-- so many lines these come to at most, one behind the other
abbrev pub AreMost : (behind : Bool) → List Short → ℕ → Type 0
AreMost behind [] most = most ≡ 0
AreMost behind (step ∷ steps) most =
    (own : ℕ) × (others : ℕ) × (most ≡ own + others) × IsMost behind step own
    × AreMost (behind || is_elect step) steps others
