-- Which of the plans that wait, in the order of arrival, goes first: that of the highest priority,
-- and of equals the one that came earlier.
use Rattle.std.specs.Prelude.{ℕ, ◌≡◌, ◌<◌, ◌≤◌, List, length, get_or, remove}
use Rattle.group_model.specs.Desks.{QueuedPlan}

-- it stands at this place: none has a higher priority, and those that came earlier have a lower one
pub record IsFirstAt (plans : List QueuedPlan) (at : ℕ) : Type 0 where
  pub within : at < length plans
  pub highest : (j : ℕ) (d : QueuedPlan) → j < length plans → (get_or plans j d).priority ≤ (get_or plans at d).priority
  pub earlier : (j : ℕ) (d : QueuedPlan) → j < at → (get_or plans j d).priority < (get_or plans at d).priority

-- it is taken out, and the others stay in their order
abbrev pub IsFirstTaken : List QueuedPlan → QueuedPlan → List QueuedPlan → Type 0
IsFirstTaken old w new = (at : ℕ) × IsFirstAt old at × (w ≡ get_or old at w) × (new ≡ remove old at)
