-- Answers that are lists of rows.
use Rattle.std.specs.Prelude.{◌≡◌, ◌≢◌, List, [], Result, MatchResult}

-- the answer is these rows; memory is wanting only where there are some
abbrev pub GivesRows : {X E : Type 0} → Result (List X) E → List X → Type 0
GivesRows answer rows = MatchResult answer (λ listed. listed ≡ rows) (λ _. rows ≢ [])
