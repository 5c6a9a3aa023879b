-- What comes every so many milliseconds.
use Rattle.std.specs.Prelude.{◌≡◌, ℕ, zero, suc, ◌+◌, ◌*◌, ◌%◌, ◌<◌, ◌≤◌, Bool, if◌then◌else◌, nat_le, List, [], ◌∷◌, sum}
use Rattle.std.specs.List.{AllByRecursion}
use Rattle.timers.specs.declared.period.Period.{Period}

-- it comes once so many more have passed
abbrev pub is_due : ℕ → Period → Bool
is_due ms p = nat_le p.every (p.passed + ms)

-- what of this time is behind the last whole period
abbrev pub rest_of : ℕ → ℕ → ℕ
rest_of zero total = 0
rest_of (suc n) total = total % suc n

-- once so many more have passed
abbrev pub later : ℕ → Period → Period
later ms p = record p { passed = if is_due ms p then rest_of p.every (p.passed + ms) else p.passed + ms }

-- ---- how often it comes

abbrev pub counted : Bool → ℕ
counted due = if due then 1 else 0

-- while items of time come, one after the other
abbrev pub times : Period → List ℕ → ℕ
times p [] = 0
times p (ms ∷ more) = counted (is_due ms p) + times (later ms p) more

-- It comes as many times as whole periods pass, where each item is of a period at most.
pub record ComesAsOften (p : Period) (items : List ℕ) : Type 0 where
  pub enough : p.passed + sum items < suc (times p items) * p.every

-- It never comes more often, whatever the items.
abbrev pub ComesNoOftener : Period → List ℕ → Type 0
ComesNoOftener p items = times p items * p.every ≤ p.passed + sum items

-- less than a period has passed since it last came
abbrev pub IsRunning : Period → Type 0
IsRunning p = p.passed < p.every

abbrev pub AreWithin : ℕ → List ℕ → Type 0
AreWithin most items = AllByRecursion (λ ms. ms ≤ most) items
