-- Words and items with something behind them.
use Rattle.std.proofs.Common.{◌≡◌, ◌++◌, ◌∷◌, ℕ, List, [], append-nil, ap, refl, sym}
use Rattle.std.specs.List.{join_with_byte}
use Rattle.rows.specs.declared.worker.EvalOutcome.{EvalOutcome}
use Rattle.rows.specs.declared.worker.EvalOutcome.TheVariants.{Blocked, Complete, Failed}
use Rattle.event_texts.specs.Inner.Written.{behind_commas}
use Rattle.event_texts.specs.WorkerLines.{outcome_words}

pub joined : (first : List ℕ) (rest : List (List ℕ)) → join_with_byte 44 (first ∷ rest) ≡ first ++ behind_commas rest
joined first [] = sym (append-nil first)
joined first (next ∷ rest) = ap (λ text. first ++ 44 ∷ text) (joined next rest)

pub before_outcome : (word : List ℕ) (outcome : EvalOutcome)
    → join_with_byte 32 (word ∷ outcome_words outcome) ≡ word ++ 32 ∷ join_with_byte 32 (outcome_words outcome)
before_outcome word (Blocked snapshot) = refl
before_outcome word Complete = refl
before_outcome word Failed = refl
